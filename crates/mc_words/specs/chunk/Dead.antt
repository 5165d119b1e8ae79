-- Dead chunks that looks found.
use Rattle.std.specs.Prelude.{◌≡◌, ◌⊎◌, ℕ, ◌≤◌, Contains, Bool, false, true, List, [], ◌∷◌, ◌++◌}
use Rattle.mc_classes.specs.Classes.{Classes}
use Rattle.mc_pages.specs.declared.ids.ChunkId.{ChunkId}
use Rattle.mc_pages.specs.SlabState.{SlabState, class_at, class_of_chunk, class_of_page}
use Rattle.mc_core.specs.declared.look.Look.{Look}
use Rattle.mc_core.specs.model.Looks.{is_found_alive}
use Rattle.mc_core.specs.model.State.{has_chunk}

-- dead chunks that were noted, and whether there are more
pub record NotedChunks : Type 0 where
  pub chunks : List ChunkId
  pub are_more : Bool

-- one more chunk was noted, behind the others, or it is recorded that there are more
abbrev pub Notes : ChunkId → NotedChunks → NotedChunks → Type 0
Notes chunk dead now = (now ≡ record dead { chunks = dead.chunks ++ chunk ∷ [] }) ⊎ (now ≡ record dead { are_more = true })

-- one class handed out all these chunks
abbrev pub ShareAnOrder : SlabState → List ChunkId → Type 0
ShareAnOrder slabs chunks = (chunk other : ChunkId) → Contains chunks chunk → Contains chunks other → (class_of_page slabs other.page ≡ class_of_page slabs chunk.page) × Contains (class_of_chunk slabs chunk).order other

-- the chunk was found alive, or is one of the dead that were noted; unless more were dead than are noted
abbrev pub IsAliveOrNoted : List Look → NotedChunks → ChunkId → Type 0
IsAliveOrNoted looks dead chunk = dead.are_more ≡ false → (is_found_alive looks chunk ≡ true) ⊎ Contains dead.chunks chunk

-- each of these was found alive, or is one of the dead that were noted
abbrev pub AreJudged : List ChunkId → List Look → NotedChunks → Type 0
AreJudged chunks looks dead = (chunk : ChunkId) → Contains chunks chunk → IsAliveOrNoted looks dead chunk

-- the chunk isn't one of those of the page from one index up to another
abbrev pub IsOutside : ℕ → ℕ → ℕ → ChunkId → Type 0
IsOutside page from until chunk = chunk.page ≡ page → from ≤ chunk.index → until ≤ chunk.index

-- the chunk is one of the arena's, and the class handed it out
pub record IsOut (table : Classes) (slabs : SlabState) (class : ℕ) (chunk : ChunkId) : Type 0 where
  pub in_range : has_chunk table chunk ≡ true
  pub own : class_of_page slabs chunk.page ≡ class
  pub listed : Contains (class_at slabs class).order chunk

-- each chunk that was noted is one of the arena's, and the class handed it out
abbrev pub AreHandedOut : Classes → SlabState → ℕ → NotedChunks → Type 0
AreHandedOut table slabs class dead = (chunk : ChunkId) → Contains dead.chunks chunk → IsOut table slabs class chunk
