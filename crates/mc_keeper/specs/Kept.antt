-- What the keeper keeps: it is a consistent machine, and its index, its counts and its decider are that machine's.
use Rattle.std.specs.Prelude.{◌≡◌, ℕ, ◌+◌, ◌-◌, ◌^◌, ◌<◌, ◌≤◌, ◌==◌, Bool, not, ◌&&◌, slice_index_or, List, [], ◌∷◌, length}
use Rattle.mc_pages.specs.declared.ids.ChunkId.{ChunkId}
use Rattle.mc_pages.specs.declared.ledger.Owner.{Owner}
use Rattle.mc_pages.specs.Ledger.{owner_at}
use Rattle.mc_pages.specs.SlabState.{SlabState, class_of_owner}
use Rattle.mc_pages.specs.Accounted.{truth}
use Rattle.mc_watch.specs.Decider.{DeciderState, evictions_of, class_value}
use Rattle.mc_serial_spec.specs.Automove.{eviction_counts}
use Rattle.mc_serial_spec.specs.Consistent.{IsConsistent}
use Rattle.mc_serial_spec.specs.Holds.{Holds, is_held}
use Rattle.mc_serial_spec.specs.Items.{Items, linked_chunk, PlacedItem}
use Rattle.mc_serial_parts.specs.Leads.{chunk_led_to}
use Rattle.mc_keeper.specs.declared.keeper.Keeper.TheInside.{Inside}

-- the index leads each key to the chunk of its item, where it has one
abbrev pub IsIndexed : List (ℕ × ChunkId) → Items → Type 0
IsIndexed index items = (key : ℕ) → chunk_led_to index key ≡ linked_chunk items key

-- the decider has as many classes as the memory, and no class has fewer evictions than in its last window, so it refuses no window
pub record IsWatched (slabs : SlabState) (decider : DeciderState) : Type 0 where
  pub of_each : length decider.per_page ≡ length slabs.classes
  pub risen : (class : ℕ) → evictions_of decider.windows class ≤ class_value (eviction_counts slabs) class
  -- a counter has 64 bits
  pub small : (place : ℕ) → slice_index_or (eviction_counts slabs) place 0 < 2 ^ 64

-- a dead item of the class: no key leads to it, and nobody holds its chunk
abbrev pub is_dead_item : List Owner → Holds → ℕ → PlacedItem → Bool
is_dead_item owners holds class placed =
    not placed.item.linked && not (is_held holds placed.chunk) && class_of_owner (owner_at owners placed.chunk.page) == class

-- how many dead items the class has
abbrev pub dead_items : List Owner → Holds → Items → ℕ → ℕ
dead_items owners holds [] class = 0
dead_items owners holds (placed ∷ items) class = truth (is_dead_item owners holds class placed) + dead_items owners holds items class

-- the counts are those of the dead items of each of n classes
pub record DeadAreCounted (classes : ℕ) (owners : List Owner) (holds : Holds) (items : Items) (counts : List ℕ) : Type 0 where
  pub of_each : length counts ≡ classes
  pub dead : (class : ℕ) → 1 ≤ class → class ≤ classes → slice_index_or counts (class - 1) 0 ≡ dead_items owners holds items class

-- the keeper is a consistent machine, and its decider, its index and its counts are that machine's
pub record KeeperIsInOrder (keeper : Inside) : Type 0 where
  pub watched : IsWatched keeper.slabs.state keeper.decider
  pub kept : IsConsistent keeper.table keeper.slabs.state keeper.items
  pub indexed : IsIndexed keeper.index keeper.items
  pub counted : DeadAreCounted (length keeper.slabs.state.classes) keeper.slabs.state.owners keeper.holds keeper.items keeper.dead
  pub bulk : keeper.bulk ≤ 256
