-- Every page and every chunk is accounted for.
use Rattle.std.specs.Prelude.{◌≡◌, ◌≢◌, ℕ, ◌+◌, ◌-◌, ◌*◌, ◌/◌, ◌≤◌, ◌==◌, Bool, true, false, not, ◌&&◌, IsTrue, nat_lt, if◌then◌else◌, List, length, map, count_by, Option, Some, None}
use Rattle.std.specs.List.{range_with_len}
use Rattle.std.specs.Option.{option_map}
use Rattle.mc_pages.specs.declared.ids.ChunkId.{ChunkId}
use Rattle.mc_pages.specs.declared.ids.Moving.{Moving}
use Rattle.mc_pages.specs.declared.ledger.Owner.{Owner}
use Rattle.mc_pages.specs.declared.ledger.Owner.TheVariants.{Untouched, Pool, Class}
use Rattle.mc_pages.specs.declared.ledger.Owner.TheVariants as owner
use Rattle.mc_pages.specs.Ledger.{KeepsGrace, all_untouched, ordinary_count, owner_at, replay}
use Rattle.mc_pages.specs.ClassState.{times_in}
use Rattle.mc_pages.specs.SlabState.{SlabState, HasClass, class_at, page_count}

-- 1 for a fact, and else 0
abbrev pub truth : Bool → ℕ
truth b = if b then 1 else 0

-- the page of this owner is in the class's page list: the class owns the page, or the page moves from the class
abbrev pub is_of_class : ℕ → Owner → Bool
is_of_class class Untouched = false
is_of_class class Pool = false
is_of_class class (Class own) = own == class
is_of_class class (owner.Moving src dst) = src == class

-- the page of this owner is in the pool; a page that was never granted isn't
abbrev pub is_pool : Owner → Bool
is_pool Pool = true
is_pool other = false

-- the page is on the move from a class, to another one or to the pool
abbrev pub is_moving : Owner → Bool
is_moving (owner.Moving src dst) = true
is_moving other = false

-- how many chunks of the page were cut, where a page has n chunks
abbrev pub cut_count : Option ChunkId → ℕ → ℕ → ℕ
cut_count None page per_page = per_page
cut_count (Some next) page per_page = if next.page == page then next.index else per_page

-- the chunk was cut for the class
abbrev pub is_cut : SlabState → ℕ → ChunkId → Bool
is_cut slabs class chunk =
    is_of_class class (owner_at slabs.owners chunk.page) && nat_lt chunk.index (cut_count slabs.uncut chunk.page (class_at slabs class).per_page)

-- how many chunks of the class's pages aren't cut yet
abbrev pub uncut_count : SlabState → ℕ → Option ChunkId → ℕ
uncut_count slabs class None = 0
uncut_count slabs class (Some next) =
    if is_of_class class (owner_at slabs.owners next.page) then (class_at slabs class).per_page - next.index else 0

-- how often the chunk is in the free list and in the hand-out order of the class
abbrev pub places_in : SlabState → ℕ → ChunkId → ℕ
places_in slabs class chunk = times_in chunk (class_at slabs class).free + times_in chunk (class_at slabs class).order

-- the chunk was cut for the class, and has left its lists while its page moves
abbrev pub is_cleared : SlabState → ℕ → ChunkId → Bool
is_cleared slabs class chunk = is_moving (owner_at slabs.owners chunk.page) && is_cut slabs class chunk && places_in slabs class chunk == 0

-- the first n chunks of a page
abbrev pub first_chunks : ℕ → ℕ → List ChunkId
first_chunks page count = map (λ index. record { page = page; index = index }) (range_with_len 0 count)

-- how many chunks of the class are cleared
abbrev pub cleared_count : SlabState → ℕ → Option Moving → ℕ
cleared_count slabs class None = 0
cleared_count slabs class (Some move) = count_by (is_cleared slabs class) (first_chunks move.page (class_at slabs class).per_page)

-- how many chunks before the position of a move aren't cleared
abbrev pub left_behind : SlabState → Moving → ℕ
left_behind slabs move = count_by (λ chunk. not (is_cleared slabs move.src chunk)) (first_chunks move.page move.at)

-- a move from one class to another or to the pool, and how far it is
pub record IsMove (slabs : SlabState) (move : Moving) : Type 0 where
  pub owner : owner_at slabs.owners move.page ≡ owner.Moving move.src move.dst
  pub src : HasClass slabs move.src
  -- the class that gives the page has another one
  pub spare : 2 ≤ length (class_at slabs move.src).pages
  pub dst : move.dst ≤ length slabs.classes
  pub apart : move.src ≢ move.dst
  pub within : move.at ≤ (class_at slabs move.src).per_page
  pub busy : move.busy ≤ move.at
  -- each chunk before the position is cleared, or counted as busy
  pub passed : left_behind slabs move ≤ move.busy

-- the owners are the ledger's, a page is in its owner's list alone, and each cut chunk is in one place
pub record IsAccounted (slabs : SlabState) : Type 0 where
  -- the owners are what the ledger's entries made of untouched pages
  pub replays : replay (all_untouched (page_count slabs)) slabs.ledger ≡ Some slabs.owners
  -- each page of a class is once in the class's page list, and no other page is in the list
  pub pages : (class page : ℕ) → HasClass slabs class →
      count_by (λ p. p == page) (class_at slabs class).pages ≡ truth (is_of_class class (owner_at slabs.owners page))
  -- a page that is of a class is of one of the classes
  pub owned : (class page : ℕ) → IsTrue (is_of_class class (owner_at slabs.owners page)) → HasClass slabs class
  -- each page of the pool is once in the pool's list, and no other page is in the list
  pub pool : (page : ℕ) → count_by (λ p. p == page) slabs.pool ≡ truth (is_pool (owner_at slabs.owners page))
  -- no page is moving but that of the move that runs
  pub one_move : (page : ℕ) → IsTrue (is_moving (owner_at slabs.owners page)) → option_map (λ move. move.page) slabs.moving ≡ Some page
  pub move : (move : Moving) → slabs.moving ≡ Some move → IsMove slabs move
  -- no more pages were granted within the limit than fit into it
  pub limit : ordinary_count slabs.ledger ≤ slabs.limit / slabs.page
  -- beyond the limit each class got one page at most, and has one to stay from then on
  pub grace : KeepsGrace slabs.owners slabs.ledger
  -- each cut chunk is in one place: once in the free list or in the hand-out order, or cleared; and no other chunk is
  pub chunks : (class : ℕ) (chunk : ChunkId) → HasClass slabs class →
      places_in slabs class chunk + truth (is_cleared slabs class chunk) ≡ truth (is_cut slabs class chunk)
  -- free, handed-out, uncut and cleared chunks are all that the class's pages have
  pub total : (class : ℕ) → HasClass slabs class →
      length (class_at slabs class).free + length (class_at slabs class).order
      + uncut_count slabs class slabs.uncut + cleared_count slabs class slabs.moving
      ≡ length (class_at slabs class).pages * (class_at slabs class).per_page
  -- the pick of a source goes on behind one of the classes
  pub cursor : HasClass slabs slabs.cursor
  -- the automover is off, or acts on each window, or on each eviction
  pub mode : slabs.automove ≤ 2
