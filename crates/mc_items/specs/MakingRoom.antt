-- How room is made in a class, under one hold of the slabs lock, without a sweep.
use Rattle.std.specs.Prelude.{◌≡◌, ◌⊎◌, ℕ, ◌+◌, ◌≤◌, zero, suc, true, is_some, None}
use Rattle.mc_pages.specs.Changes.{HasNoPageFor, next_page}
use Rattle.mc_pages.specs.ClassState.{first_free}
use Rattle.mc_pages.specs.SlabState.{SlabState, class_at}
use Rattle.mc_words.specs.chunk.Sweeps.{Recovers}
use Rattle.mc_words.specs.hand.View.{View}
use Rattle.mc_words.specs.lock.Doing.{SlabsDoing}
use Rattle.mc_items.specs.declared.evicting.Supply.{Supply}
use Rattle.mc_items.specs.declared.evicting.Supply.TheVariants as supply
use Rattle.mc_items.specs.declared.making_room.Room.{Room}
use Rattle.mc_items.specs.declared.making_room.Room.TheVariants.{Had, Page, Freed, Full}
use Rattle.mc_items.specs.Sources.{AsksMove}
use Rattle.mc_items.specs.Supplying.{Grows}
use Rattle.mc_items.specs.Visiting.{LacksCallAtOldest, RecordsDeletes, VisitsOldest}

-- the class had a free chunk, and nothing was done; or dead chunks were put back, and the class lacks a free one only if it lacked one before
abbrev pub PutsBackDead : ℕ → SlabsDoing
PutsBackDead class view slabs now left =
    ((is_some (first_free (class_at slabs class)) ≡ true) × (now ≡ view) × (left ≡ slabs))
    ⊎ ((first_free (class_at left class) ≡ None → first_free (class_at slabs class) ≡ None) × Recovers (class_at slabs class).order view slabs now left)

-- the class has a free chunk: it had one, or dead chunks were put back
abbrev pub FindsFree : ℕ → SlabsDoing
FindsFree class view slabs now left = PutsBackDead class view slabs now left × (is_some (first_free (class_at left class)) ≡ true)

-- the class had no free chunk, and no chunk came free of those that hints named
pub record LacksFree (class : ℕ) (view : View) (slabs : SlabState) (now : View) (left : SlabState) : Type 0 where
  pub empty : first_free (class_at slabs class) ≡ None
  pub recovers : Recovers (class_at slabs class).order view slabs now left
  pub still : first_free (class_at left class) ≡ None

-- the class had no free chunk, and was given the next page
pub record GetsPage (number class : ℕ) (view : View) (slabs : SlabState) (now : View) (left : SlabState) : Type 0 where
  pub tried : View
  pub between : SlabState
  pub lacks : LacksFree class view slabs tried between
  pub grows : Grows number class tried between now left

-- what a move is asked for by: an eviction, if there was one
abbrev pub supply_by : ℕ → Supply
supply_by zero = supply.Dead
supply_by (suc evicted) = supply.Evicted

-- the oldest chunks of the class were visited; and if an item was evicted, in mode 2, a move of a page to the class was asked for
pub record EvictsOldest (number class evicted freed : ℕ) (view : View) (slabs : SlabState) (now : View) (left : SlabState) : Type 0 where
  pub visited : View
  pub between : SlabState
  pub visits : VisitsOldest number class evicted freed view slabs visited between
  pub asks : AsksMove number class (supply_by evicted) visited between now left

-- the answer of a call that evicted n items and put n chunks back
abbrev pub room_by : ℕ → ℕ → Room
room_by zero zero = Full
room_by zero (suc freed) = Freed 0 (suc freed)
room_by (suc evicted) freed = Freed (suc evicted) freed

-- the oldest chunks of the class were visited, by what the call answers
abbrev pub EvictsOldestFor : ℕ → ℕ → Room → SlabsDoing
EvictsOldestFor number class Had view slabs now left = ⊥
EvictsOldestFor number class Page view slabs now left = ⊥
EvictsOldestFor number class (Freed evicted freed) view slabs now left = EvictsOldest number class evicted freed view slabs now left × (1 ≤ evicted + freed)
EvictsOldestFor number class Full view slabs now left = EvictsOldest number class 0 0 view slabs now left

-- the class had no free chunk, no page was left for it, and its oldest chunks were visited
pub record EvictsForRoom (number class : ℕ) (room : Room) (view : View) (slabs : SlabState) (now : View) (left : SlabState) : Type 0 where
  pub tried : View
  pub between : SlabState
  pub lacks : LacksFree class view slabs tried between
  pub full : HasNoPageFor between class
  pub evicts : EvictsOldestFor number class room tried between now left

-- how room was made, by the call's answer
abbrev pub MakesRoom : ℕ → ℕ → Room → SlabsDoing
MakesRoom number class Had view slabs now left = FindsFree class view slabs now left
MakesRoom number class Page view slabs now left = GetsPage number class view slabs now left
MakesRoom number class (Freed evicted freed) view slabs now left = EvictsForRoom number class (Freed evicted freed) view slabs now left
MakesRoom number class Full view slabs now left = EvictsForRoom number class Full view slabs now left

-- there was no memory for the class's next page, and nothing was done
pub record LacksPage (class : ℕ) (view : View) (slabs : SlabState) (now : View) (left : SlabState) : Type 0 where
  pub page : is_some (next_page slabs class) ≡ true
  pub same : (now ≡ view) × (left ≡ slabs)

-- no page was left for the class, its oldest chunks were visited, and there was no memory for a call on the next one's key
pub record LacksCallForRoom (number class : ℕ) (view : View) (slabs : SlabState) (now : View) (left : SlabState) : Type 0 where
  pub full : HasNoPageFor slabs class
  pub lacks : LacksCallAtOldest number class view slabs now left

-- the class had no free chunk, and there was no memory for its next page, or for a call on the key of an old item
pub record LacksRoomMemory (number class : ℕ) (view : View) (slabs : SlabState) (now : View) (left : SlabState) : Type 0 where
  pub tried : View
  pub between : SlabState
  pub lacks : LacksFree class view slabs tried between
  pub why : LacksPage class tried between now left ⊎ LacksCallForRoom number class tried between now left

-- how many items an answer says were evicted
abbrev pub evicted_for : Room → ℕ
evicted_for Had = 0
evicted_for Page = 0
evicted_for (Freed evicted freed) = evicted
evicted_for Full = 0

-- the hand's own calls got deletes of keys that were there, and no other call
abbrev pub RecordsSomeDeletes : ℕ → View → View → Type 0
RecordsSomeDeletes number view now = (count : ℕ) × RecordsDeletes number count view now
