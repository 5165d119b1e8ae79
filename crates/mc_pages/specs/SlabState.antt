-- All pages and chunks of a slab memory, as lists.
use Rattle.std.specs.Prelude.{ℕ, ◌+◌, ◌-◌, ◌/◌, ◌≤◌, Bool, true, false, not, List, [], length, map, count_by, position, slice_index_or, Option, None}
use Rattle.mc_classes.specs.Classes.{Classes, arena_pages_of}
use Rattle.mc_pages.specs.declared.ids.ChunkId.{ChunkId}
use Rattle.mc_pages.specs.declared.ids.Moving.{Moving}
use Rattle.mc_pages.specs.declared.ledger.Owner.{Owner}
use Rattle.mc_pages.specs.declared.ledger.Owner.TheVariants.{Untouched, Pool, Class}
use Rattle.mc_pages.specs.declared.ledger.Owner.TheVariants as variants
use Rattle.mc_pages.specs.declared.ledger.Entry.{Entry}
use Rattle.mc_pages.specs.declared.numbers.Totals.{Totals}
use Rattle.mc_pages.specs.Ledger.{all_untouched, owner_at}
use Rattle.mc_pages.specs.ClassState.{ClassState, new_class}

-- a slab memory as its callers see it: pages and who owns them, classes with their chunks, the move, counters
pub record SlabState : Type 0 where
  -- the bytes of a page, and the bytes of pages that may be granted but for the first ones of classes
  pub page : ℕ
  pub limit : ℕ
  -- the classes, class 1 first
  pub classes : List ClassState
  -- the owner of each page, page 0 first
  pub owners : List Owner
  -- the pages of the pool, the one that came last at the end
  pub pool : List ℕ
  -- all entries, the oldest first, and how many of them, the oldest, aren't recorded any more
  pub ledger : List Entry
  pub trimmed : ℕ
  -- the lowest chunk that isn't cut yet, of a page just given to a class
  pub uncut : Option ChunkId
  pub moving : Option Moving
  -- the pick of a source goes on behind this class
  pub cursor : ℕ
  -- the counters, each at most 2^64 - 1
  pub moved : ℕ
  pub rescues : ℕ
  pub evictions_nomem : ℕ
  pub busy : ℕ
  -- the automover's mode
  pub automove : ℕ

-- what a slab memory holds, and how many fields of its rows, heads and tails were ever written
pub record SlabValue : Type 0 where
  pub state : SlabState
  pub writes : ℕ

-- nothing is granted yet
abbrev pub fresh_slabs : Classes → SlabState
fresh_slabs table = record {
  page = table.page;
  limit = table.limit;
  classes = map (λ size. new_class size (table.page / size)) table.sizes;
  owners = all_untouched (arena_pages_of table);
  pool = [];
  ledger = [];
  trimmed = 0;
  uncut = None;
  moving = None;
  cursor = length table.sizes;
  moved = 0;
  rescues = 0;
  evictions_nomem = 0;
  busy = 0;
  automove = 0;
}

-- how many pages there are: those within the limit, and one more for each class
abbrev pub page_count : SlabState → ℕ
page_count slabs = slabs.limit / slabs.page + length slabs.classes

-- this is the number of a class of the memory: classes are numbered from 1
abbrev pub HasClass : SlabState → ℕ → Type 0
HasClass slabs class = (1 ≤ class) × (class ≤ length slabs.classes)

-- a class by its number
abbrev pub class_at : SlabState → ℕ → ClassState
class_at slabs class = slice_index_or slabs.classes (class - 1) (new_class 0 0)

-- the class that a page's owner is, or is moving away from; 0 where there is none
abbrev pub class_of_owner : Owner → ℕ
class_of_owner Untouched = 0
class_of_owner Pool = 0
class_of_owner (Class class) = class
class_of_owner (variants.Moving src dst) = src

-- the class whose page list has the page
abbrev pub class_of_page : SlabState → ℕ → ℕ
class_of_page slabs page = class_of_owner (owner_at slabs.owners page)

-- the class that has the chunk's page
abbrev pub class_of_chunk : SlabState → ChunkId → ClassState
class_of_chunk slabs chunk = class_at slabs (class_of_page slabs chunk.page)

-- nobody was given the page yet
abbrev pub is_untouched : Owner → Bool
is_untouched Untouched = true
is_untouched owner = false

-- the lowest page that was never granted
abbrev pub untouched_page : SlabState → Option ℕ
untouched_page slabs = position is_untouched slabs.owners

-- how many pages were ever granted
abbrev pub granted_count : SlabState → ℕ
granted_count slabs = count_by (λ owner. not (is_untouched owner)) slabs.owners

-- the totals of a slab memory
abbrev pub totals_of : SlabState → Totals
totals_of slabs = record {
  granted = granted_count slabs;
  pool = length slabs.pool;
  moved = slabs.moved;
  rescues = slabs.rescues;
  evictions_nomem = slabs.evictions_nomem;
  busy = slabs.busy;
}
