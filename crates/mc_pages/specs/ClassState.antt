-- One size class: its pages, its free list and its hand-out order.
use Rattle.std.specs.Prelude.{ℕ, ◌+◌, ◌-◌, ◌^◌, min, ◌==◌, Bool, not, ◌&&◌, if◌then◌else◌, List, [], ◌∷◌, ◌++◌, length, count_by, filter, slice_get, Option, None}
use Rattle.mc_pages.specs.declared.ids.ChunkId.{ChunkId}
use Rattle.mc_pages.specs.declared.numbers.Numbers.{Numbers}

-- the bytes of a chunk; the chunks of a page; the pages; the free chunks, the next to hand out first; the handed-out chunks, the oldest
-- first; and how many items were evicted
pub record ClassState : Type 0 where
  pub size : ℕ
  pub per_page : ℕ
  pub pages : List ℕ
  pub free : List ChunkId
  pub order : List ChunkId
  pub evictions : ℕ

-- a class without pages
abbrev pub new_class : ℕ → ℕ → ClassState
new_class size per_page = record { size = size; per_page = per_page; pages = []; free = []; order = []; evictions = 0 }

-- two names of one chunk
abbrev pub is_chunk : ChunkId → ChunkId → Bool
is_chunk a b = a.page == b.page && a.index == b.index

-- how often the chunk is in the list
abbrev pub times_in : ChunkId → List ChunkId → ℕ
times_in chunk chunks = count_by (λ c. is_chunk c chunk) chunks

-- the list less the first place of the chunk
abbrev pub without : ChunkId → List ChunkId → List ChunkId
without chunk [] = []
without chunk (c ∷ chunks) = if is_chunk c chunk then chunks else c ∷ without chunk chunks

-- the chunk that is handed out next
abbrev pub first_free : ClassState → Option ChunkId
first_free class = slice_get class.free 0

-- the head of this free list goes to the back of the hand-out order
abbrev pub class_after_hand_out : ClassState → List ChunkId → ClassState
class_after_hand_out class [] = class
class_after_hand_out class (chunk ∷ free) = record class { free = free; order = class.order ++ chunk ∷ [] }

-- the next chunk is handed out, if there is one
abbrev pub class_after_pop : ClassState → ClassState
class_after_pop class = class_after_hand_out class class.free

-- a handed-out chunk leaves the hand-out order and goes to the head of the free list
abbrev pub put_back : ClassState → ChunkId → ClassState
put_back class chunk = record class { free = chunk ∷ class.free; order = without chunk class.order }

-- a handed-out chunk goes to the back of the hand-out order
abbrev pub class_after_touch : ClassState → ChunkId → ClassState
class_after_touch class chunk = record class { order = without chunk class.order ++ chunk ∷ [] }

-- the list with a chunk put directly before the first place of another
abbrev pub with_before : ChunkId → ChunkId → List ChunkId → List ChunkId
with_before new old [] = []
with_before new old (c ∷ chunks) = if is_chunk c old then new ∷ c ∷ chunks else c ∷ with_before new old chunks

-- a free chunk takes the place of a handed-out one, which is directly behind it then
abbrev pub class_after_replacement : ClassState → ChunkId → ChunkId → ClassState
class_after_replacement class new old = record class { free = without new class.free; order = with_before new old class.order }

-- a chunk leaves the list that it is in
abbrev pub class_after_clear : ClassState → ChunkId → ClassState
class_after_clear class chunk = record class { free = without chunk class.free; order = without chunk class.order }

-- a chunk is cut: it goes to the head of the free list
abbrev pub with_cut : ClassState → ChunkId → ClassState
with_cut class chunk = record class { free = chunk ∷ class.free }

-- a page joins the end of the page list
abbrev pub with_page : ClassState → ℕ → ClassState
with_page class page = record class { pages = class.pages ++ page ∷ [] }

-- a page leaves the page list
abbrev pub without_page : ClassState → ℕ → ClassState
without_page class page = record class { pages = filter (λ p. not (p == page)) class.pages }

-- a counter after n more, which stops at its greatest value
abbrev pub counter_after : ℕ → ℕ → ℕ
counter_after counter more = min (counter + more) (2 ^ 64 - 1)

-- the class after one of its items was evicted to make room
abbrev pub class_after_eviction : ClassState → ClassState
class_after_eviction class = record class { evictions = counter_after class.evictions 1 }

-- the numbers of a class: its pages, its free chunks and its evictions
abbrev pub numbers_of : ClassState → Numbers
numbers_of class = record { pages = length class.pages; free = length class.free; evictions = class.evictions }

-- the chunk directly behind this one in the list
abbrev pub behind : ChunkId → List ChunkId → Option ChunkId
behind chunk [] = None
behind chunk (c ∷ chunks) = if is_chunk c chunk then slice_get chunks 0 else behind chunk chunks
