-- Which chunks the workers hold.
use Rattle.std.specs.Prelude.{ℕ, Bool, nat_lt, not, List, [], ◌∷◌, length, sum_by, slice_index_or, slice_set, replicate}
use Rattle.mc_classes.specs.Limits.{most_hands, most_refs}
use Rattle.mc_pages.specs.declared.ids.ChunkId.{ChunkId}
use Rattle.mc_pages.specs.ClassState.{times_in, without}

-- for each worker, from 0, the chunks that it holds, a chunk once for each hold; the one that was taken last first
abbrev pub Holds : Type 0
Holds = List (List ChunkId)

-- nobody holds a chunk: worker 0 is the thread that moves pages
abbrev pub no_holds : Holds
no_holds = replicate most_hands []

-- the most chunks that a worker may hold
abbrev pub most_holds : ℕ
most_holds = most_refs

-- the chunks that a worker holds
abbrev pub held_by : Holds → ℕ → List ChunkId
held_by holds worker = slice_index_or holds worker []

-- the worker can hold no more
abbrev pub is_full : Holds → ℕ → Bool
is_full holds worker = not (nat_lt (length (held_by holds worker)) most_holds)

-- how many holds there are of the chunk
abbrev pub hold_count : Holds → ChunkId → ℕ
hold_count holds chunk = sum_by (times_in chunk) holds

-- somebody holds the chunk
abbrev pub is_held : Holds → ChunkId → Bool
is_held holds chunk = nat_lt 0 (hold_count holds chunk)

-- the worker takes a hold of the chunk
abbrev pub with_hold : Holds → ℕ → ChunkId → Holds
with_hold holds worker chunk = slice_set holds worker (chunk ∷ held_by holds worker)

-- the worker gives back the hold of the chunk that it took last
abbrev pub without_hold : Holds → ℕ → ChunkId → Holds
without_hold holds worker chunk = slice_set holds worker (without chunk (held_by holds worker))
