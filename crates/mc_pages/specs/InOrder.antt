-- What all pages and chunks keep beside that they are accounted for, and the room that is kept for them.
use Rattle.std.specs.Prelude.{◌≡◌, ℕ, ◌+◌, ◌-◌, ◌*◌, ◌<◌, ◌≤◌, ◌==◌, Bool, false, IsTrue, not, nat_lt, List, length, map, count_by, slice_get, slice_index_or, vec_len, vec_capacity, is_some, Option, Some}
use Rattle.std.specs.Option.{option_map_or}
use Rattle.mc_classes.specs.Limits.{most_arena_pages, most_page_chunks}
use Rattle.mc_pages.specs.declared.ids.ChunkId.{ChunkId}
use Rattle.mc_pages.specs.declared.ids.Moving.{Moving}
use Rattle.mc_pages.specs.declared.ledger.Owner.{Owner}
use Rattle.mc_pages.specs.declared.ledger.Owner.TheVariants.{Untouched}
use Rattle.mc_pages.specs.declared.slabs.Slabs.TheInside.{Inside}
use Rattle.mc_pages.specs.Ledger.{ordinary_count, owner_at}
use Rattle.mc_pages.specs.ClassState.{ClassState, new_class}
use Rattle.mc_pages.specs.Linked.{AreLinked, Sizes, sizes_of}
use Rattle.mc_pages.specs.Ages.{HasAges}
use Rattle.mc_pages.specs.Room.{RoomyClass, empty_class, class_states}
use Rattle.mc_pages.specs.SlabState.{SlabState, SlabValue, HasClass, class_at, class_of_page, class_of_chunk, is_untouched}
use Rattle.mc_pages.specs.Accounted.{truth, is_moving, IsAccounted}

-- classes without room for a page
abbrev pub classes_without_room : List ClassState → List RoomyClass
classes_without_room classes = map (λ state. record { state = state; room = 0 }) classes

-- the slab memory as a record of lists, by what is in memory
abbrev pub slabs_of : Inside → SlabState
slabs_of slabs = record {
  page = slabs.page;
  limit = slabs.limit;
  classes = class_states slabs.rows slabs.classes.items;
  owners = slabs.owners.items;
  pool = slabs.pool.items;
  ledger = slabs.ledger.all;
  trimmed = slabs.ledger.trimmed;
  uncut = slabs.uncut;
  moving = slabs.moving;
  cursor = slabs.cursor;
  moved = slabs.moved;
  rescues = slabs.rescues;
  evictions_nomem = slabs.evictions_nomem;
  busy = slabs.busy;
  automove = slabs.automove;
}

-- the slab memory as its callers see it
abbrev pub callers_slabs : Inside → SlabValue
callers_slabs slabs = record { state = slabs_of slabs; writes = slabs.rows.writes }

-- n pages were granted, the lowest ones
pub record AreGranted (owners : List Owner) (granted : ℕ) : Type 0 where
  pub within : granted ≤ length owners
  pub below : (page : ℕ) → page < granted → IsTrue (not (is_untouched (owner_at owners page)))
  pub rest : (page : ℕ) → granted ≤ page → owner_at owners page ≡ Untouched

-- the next chunk to cut is on a page that doesn't move, the last that its class got
pub record IsBeingCut (slabs : SlabState) (chunk : ChunkId) : Type 0 where
  pub owned : HasClass slabs (class_of_page slabs chunk.page)
  pub still : is_moving (owner_at slabs.owners chunk.page) ≡ false
  pub within : chunk.index < (class_of_chunk slabs chunk).per_page
  pub newest : slice_get (class_of_chunk slabs chunk).pages (length (class_of_chunk slabs chunk).pages - 1) ≡ Some chunk.page

-- how many classes have a page
abbrev pub populated_count : List ClassState → ℕ
populated_count classes = count_by (λ class. nat_lt 0 (length class.pages)) classes

-- all is accounted for; pages and their chunks are within the limits, and the lowest so many pages were granted
pub record AreSlabsInOrder (slabs : SlabState) (granted : ℕ) : Type 0 where
  pub accounted : IsAccounted slabs
  pub lowest : AreGranted slabs.owners granted
  -- beyond the limit no more were granted than there are classes with a page
  pub graced : granted ≤ ordinary_count slabs.ledger + populated_count slabs.classes
  pub pages : length slabs.owners ≤ most_arena_pages
  pub per_page : (class : ℕ) → HasClass slabs class → 1 ≤ (class_at slabs class).per_page
  pub at_most : (class : ℕ) → HasClass slabs class → (class_at slabs class).per_page ≤ most_page_chunks
  pub uncut : (chunk : ChunkId) → slabs.uncut ≡ Some chunk → IsBeingCut slabs chunk

-- a page is on the move to the class, or to the pool for 0
abbrev pub is_awaited : Option Moving → ℕ → Bool
is_awaited moving class = option_map_or (λ move. move.dst == class) moving false

-- for how many pages the class has room
abbrev pub page_room : List RoomyClass → ℕ → ℕ
page_room classes class = (slice_index_or classes (class - 1) empty_class).room

-- the rows are enough for n pages of the most chunks, and for a free list and a hand-out order of each class
pub record HasRows (classes : List ClassState) (pages : ℕ) (sizes : Sizes) : Type 0 where
  pub rows : sizes.rows ≡ pages * sizes.most
  pub most : (class : ℕ) → 1 ≤ class → (slice_index_or classes (class - 1) (new_class 0 0)).per_page ≤ sizes.most
  pub free : sizes.free ≡ length classes
  pub handed_out : sizes.handed_out ≡ length classes
  pub free_lengths : sizes.free_lengths ≡ length classes
  pub handed_out_lengths : sizes.handed_out_lengths ≡ length classes

-- the memory is in order: the lists are in the rows, the hand-out orders go by age, and there is room for what the end of a move adds
pub record IsStoredInOrder (slabs : Inside) : Type 0 where
  pub order : AreSlabsInOrder (slabs_of slabs) slabs.granted
  pub ordinary : slabs.ordinary ≡ ordinary_count slabs.ledger.all
  -- the ledger has room for the entry that the end of a move adds
  pub ledger : truth (is_some slabs.moving) ≤ slabs.ledger.room
  pub base : slabs.ledger.pages ≡ vec_len slabs.owners
  pub pool : vec_len slabs.pool + truth (is_awaited slabs.moving 0) ≤ vec_capacity slabs.pool
  pub classes : (class : ℕ) → HasClass (slabs_of slabs) class →
      length (class_at (slabs_of slabs) class).pages + truth (is_awaited slabs.moving class) ≤ page_room slabs.classes.items class
  -- the lists are in the rows
  pub linked : AreLinked slabs.rows
  -- each hand-out order goes by age
  pub aged : HasAges slabs.rows slabs.ages
  pub rows : HasRows (slabs_of slabs).classes (vec_len slabs.owners) (sizes_of slabs.rows)
