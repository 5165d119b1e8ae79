-- How a set comes to a chunk, under one hold of the slabs lock, and why it doesn't.
use Rattle.std.specs.Prelude.{◌≡◌, ◌⊎◌, ℕ, ◌≤◌, ◌==◌, Bool, true, false, is_some, None, Result}
use Rattle.std.specs.List.{list_all}
use Rattle.mc_pages.specs.declared.ids.ChunkId.{ChunkId}
use Rattle.mc_pages.specs.declared.moves.Reassign.{Reassign}
use Rattle.mc_pages.specs.Changes.{HasNoPageFor, after_pop, next_page}
use Rattle.mc_pages.specs.ClassState.{first_free}
use Rattle.mc_pages.specs.Eviction.{eviction_candidates}
use Rattle.mc_pages.specs.SlabState.{SlabState, class_at}
use Rattle.mc_core.specs.run.Chunks.{most_issue}
use Rattle.mc_core.specs.model.Looks.{is_found_alive}
use Rattle.mc_words.specs.lock.Doing.{SlabsDoing}
use Rattle.mc_words.specs.page.Owner.{PopsFirst, SeesOther}
use Rattle.mc_words.specs.page.Moves.{Reassigns}
use Rattle.mc_words.specs.hand.View.{View}
use Rattle.mc_items.specs.Evicting.{FreesOne, LacksEntry, PassesEach}
use Rattle.mc_items.specs.Supplying.{FindsNoFree, FindsWorn, Grows, SuppliesFree}
use Rattle.mc_items.specs.declared.evicting.Supply.{Supply}
use Rattle.mc_items.specs.declared.evicting.Supply.TheVariants.{Page, Dead, Evicted}
use Rattle.mc_items.specs.declared.setting.SetError.{SetError}
use Rattle.mc_items.specs.declared.setting.SetError.TheVariants.{TooLarge, NoRoom, WornOut, NoMemory}

-- a class without a free chunk came to one: by the next page; or where there is none left, by one of its candidates for an eviction
abbrev pub MakesFree : ℕ → ℕ → Supply → SlabsDoing
MakesFree number class Page view slabs now left = Grows number class view slabs now left
MakesFree number class Dead view slabs now left = (next_page slabs class ≡ None) × FreesOne number class (eviction_candidates slabs class) Dead view slabs now left
MakesFree number class Evicted view slabs now left = (next_page slabs class ≡ None) × FreesOne number class (eviction_candidates slabs class) Evicted view slabs now left

-- the class had no free chunk, a sweep freed none, and then the class came to one
pub record ComesToFree (number class : ℕ) (supply : Supply) (view : View) (slabs : SlabState) (now : View) (left : SlabState) : Type 0 where
  pub swept : View
  pub between : SlabState
  pub finds : FindsNoFree class view slabs swept between
  pub makes : MakesFree number class supply swept between now left

-- a move is asked for after an eviction in mode 2, and never else
abbrev pub asks_move : Supply → SlabState → Bool
asks_move Page slabs = false
asks_move Dead slabs = false
asks_move Evicted slabs = slabs.automove == 2

-- a move of a page from any class to this one was asked for, whatever the answer; or no move is due, and nothing was done
abbrev pub AsksMove : ℕ → ℕ → Supply → SlabsDoing
AsksMove number class supply view slabs now left =
    ((asks_move supply slabs ≡ true) × (answer : Result (Unit {0}) Reassign) × Reassigns number None class answer view slabs now left)
    ⊎ ((asks_move supply slabs ≡ false) × (now ≡ view) × (left ≡ slabs))

-- the class came to a free chunk, which was handed out; then a move of a page to the class was asked for, if one was due
pub record SuppliesMade (number class : ℕ) (chunk : ChunkId) (view : View) (slabs : SlabState) (now : View) (left : SlabState) : Type 0 where
  pub supply : Supply
  pub made : View
  pub with : SlabState
  pub comes : ComesToFree number class supply view slabs made with
  pub popped : View
  pub pops : PopsFirst made with class chunk popped
  pub asks : AsksMove number class supply popped (after_pop with class) now left

-- a chunk was got: a free or a dead one, or else one of a new page, or else an evicted item's
abbrev pub SuppliesChunk : ℕ → ℕ → ChunkId → SlabsDoing
SuppliesChunk number class chunk view slabs now left =
    SuppliesFree class chunk view slabs now left ⊎ SuppliesMade number class chunk view slabs now left

-- no page was left for the class, and none of its candidates for an eviction could be had; each chunk that it handed out was found
-- alive, and nothing was changed
pub record MakesNone (number class : ℕ) (view : View) (slabs : SlabState) (now : View) (left : SlabState) : Type 0 where
  pub full : HasNoPageFor slabs class
  pub passes : PassesEach number (eviction_candidates slabs class) view now
  pub alive : list_all (is_found_alive now.row.looks) (class_at slabs class).order ≡ true
  pub same : left ≡ slabs

-- the class had no free chunk, a sweep freed none, and the class came to none; pages and lists weren't changed
pub record FindsNoRoom (number class : ℕ) (view : View) (slabs : SlabState) (now : View) (left : SlabState) : Type 0 where
  pub swept : View
  pub finds : FindsNoFree class view slabs swept slabs
  pub makes : MakesNone number class swept slabs now left

-- the class came to a free chunk, and that is worn out
pub record MakesWorn (number class : ℕ) (view : View) (slabs : SlabState) (now : View) (left : SlabState) : Type 0 where
  pub supply : Supply
  pub made : View
  pub comes : ComesToFree number class supply view slabs made left
  pub worn : SeesOther made (first_free (class_at left class)) (λ head. most_issue ≤ head.issue) now

-- the first free chunk is worn out, at once or after the class came to one
abbrev pub FindsWornOut : ℕ → ℕ → SlabsDoing
FindsWornOut number class view slabs now left =
    FindsWorn class view slabs now left ⊎ MakesWorn number class view slabs now left

-- there was no memory for the class's next page, or for the entry of an eviction, and pages and lists weren't changed
abbrev pub LacksMore : ℕ → ℕ → SlabsDoing
LacksMore number class view slabs now left =
    (((is_some (next_page slabs class) ≡ true) × (now ≡ view)) ⊎ ((next_page slabs class ≡ None) × LacksEntry number (eviction_candidates slabs class) view now)) × (left ≡ slabs)

-- the class had no free chunk, a sweep freed none, and there was no memory to make one free
pub record LacksMemory (number class : ℕ) (view : View) (slabs : SlabState) (now : View) (left : SlabState) : Type 0 where
  pub swept : View
  pub between : SlabState
  pub finds : FindsNoFree class view slabs swept between
  pub lacks : LacksMore number class swept between now left

-- why no chunk was got
abbrev pub SuppliesNone : ℕ → ℕ → SetError → SlabsDoing
SuppliesNone number class TooLarge view slabs now left = ⊥
SuppliesNone number class NoRoom view slabs now left = FindsNoRoom number class view slabs now left
SuppliesNone number class WornOut view slabs now left = FindsWornOut number class view slabs now left
SuppliesNone number class (NoMemory _) view slabs now left = LacksMemory number class view slabs now left
