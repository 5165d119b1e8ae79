-- What each call on chunks and pages changes.
use Rattle.std.specs.Prelude.{◌≡◌, ◌≤◌, ℕ, ◌+◌, ◌-◌, ◌/◌, ◌==◌, Bool, not, ◌||◌, nat_lt, if◌then◌else◌, [], ◌∷◌, ◌++◌, length, take, slice_get, slice_set, Option, Some, None}
use Rattle.std.specs.Option.{option_or}
use Rattle.mc_pages.specs.declared.ids.ChunkId.{ChunkId}
use Rattle.mc_pages.specs.declared.ledger.Owner.TheVariants.{Class}
use Rattle.mc_pages.specs.declared.ledger.Entry.TheVariants.{Granted, Taken}
use Rattle.mc_pages.specs.Ledger.{ordinary_count}
use Rattle.mc_pages.specs.ClassState.{ClassState, class_after_pop, put_back, class_after_touch, class_after_replacement, class_after_clear, class_after_eviction, with_cut, with_page}
use Rattle.mc_pages.specs.SlabState.{SlabState, class_at, class_of_page, class_of_chunk, untouched_page}

-- one class is now this
abbrev pub with_class : SlabState → ℕ → ClassState → SlabState
with_class slabs class state = record slabs { classes = slice_set slabs.classes (class - 1) state }

-- the next free chunk of the class is handed out
abbrev pub after_pop : SlabState → ℕ → SlabState
after_pop slabs class = with_class slabs class (class_after_pop (class_at slabs class))

-- a handed-out chunk goes back to its class
abbrev pub after_back : SlabState → ChunkId → SlabState
after_back slabs chunk = with_class slabs (class_of_page slabs chunk.page) (put_back (class_of_chunk slabs chunk) chunk)

-- a handed-out chunk becomes the youngest of its class
abbrev pub after_touch : SlabState → ChunkId → SlabState
after_touch slabs chunk = with_class slabs (class_of_page slabs chunk.page) (class_after_touch (class_of_chunk slabs chunk) chunk)

-- a free chunk takes the place of a handed-out one of its class
abbrev pub after_replace : SlabState → ChunkId → ChunkId → SlabState
after_replace slabs new old = with_class slabs (class_of_page slabs old.page) (class_after_replacement (class_of_chunk slabs old) new old)

-- a chunk of the moving page leaves the lists of its class
abbrev pub after_clear : SlabState → ChunkId → SlabState
after_clear slabs chunk = with_class slabs (class_of_page slabs chunk.page) (class_after_clear (class_of_chunk slabs chunk) chunk)

-- one more item of the class was evicted
abbrev pub after_evicted : SlabState → ℕ → SlabState
after_evicted slabs class = with_class slabs class (class_after_eviction (class_at slabs class))

-- a page without an owner joins the class, none of its chunks cut yet
abbrev pub with_given : SlabState → ℕ → ℕ → SlabState
with_given slabs class page = record (with_class slabs class (with_page (class_at slabs class) page)) {
  owners = slice_set slabs.owners page (Class class);
  uncut = Some (record { page = page; index = 0 });
}

-- the page that came last into the pool
abbrev pub pooled_page : SlabState → Option ℕ
pooled_page slabs = slice_get slabs.pool (length slabs.pool - 1)

-- fewer pages were granted within the limit than fit into it
abbrev pub has_ordinary_page : SlabState → Bool
has_ordinary_page slabs = nat_lt (ordinary_count slabs.ledger) (slabs.limit / slabs.page)

-- the class has no page
abbrev pub is_without_page : SlabState → ℕ → Bool
is_without_page slabs class = length (class_at slabs class).pages == 0

-- the page that is granted next to a class: the lowest untouched one, within the limit, or beyond it as the class's first
abbrev pub granted_page : SlabState → ℕ → Option ℕ
granted_page slabs class = if has_ordinary_page slabs || is_without_page slabs class then untouched_page slabs else None

-- the page that a class gets next: the one that came last into the pool, or else one that is granted
abbrev pub next_page : SlabState → ℕ → Option ℕ
next_page slabs class = option_or (pooled_page slabs) (granted_page slabs class)

-- why no page is left for the class
pub record HasNoPageFor (slabs : SlabState) (class : ℕ) : Type 0 where
  -- the pool is empty
  pub pool : slabs.pool ≡ []
  -- as many pages were granted within the limit as fit into it
  pub limit : slabs.limit / slabs.page ≤ ordinary_count slabs.ledger
  -- the class has a page, so that the grace isn't open to it
  pub page : 1 ≤ length (class_at slabs class).pages

-- an untouched page is given to the class, beyond the limit where none is left within it
abbrev pub after_grant : SlabState → ℕ → ℕ → SlabState
after_grant slabs class page = record (with_given slabs class page) {
  ledger = slabs.ledger ++ Granted page class (not (has_ordinary_page slabs)) ∷ [];
}

-- the last page of the pool is given to the class
abbrev pub after_take : SlabState → ℕ → ℕ → SlabState
after_take slabs class page = record (with_given slabs class page) {
  pool = take (length slabs.pool - 1) slabs.pool;
  ledger = slabs.ledger ++ Taken page class ∷ [];
}

-- the class gets this page, which is the next one
abbrev pub after_grow : SlabState → ℕ → ℕ → SlabState
after_grow slabs class page = if nat_lt 0 (length slabs.pool) then after_take slabs class page else after_grant slabs class page

-- the entries of the ledger so far aren't recorded any more
abbrev pub after_trim : SlabState → SlabState
after_trim slabs = record slabs { trimmed = length slabs.ledger }

-- the chunk behind, if the page has one more
abbrev pub next_uncut : ℕ → ChunkId → Option ChunkId
next_uncut per_page chunk = if nat_lt (chunk.index + 1) per_page then Some (record { page = chunk.page; index = chunk.index + 1 }) else None

-- the lowest uncut chunk is cut
abbrev pub after_cut : SlabState → ChunkId → SlabState
after_cut slabs chunk = record (with_class slabs (class_of_page slabs chunk.page) (with_cut (class_of_chunk slabs chunk) chunk)) {
  uncut = next_uncut (class_of_chunk slabs chunk).per_page chunk;
}
