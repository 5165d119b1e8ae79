-- Which chunks an eviction looks at.
use Rattle.std.specs.Prelude.{ℕ, List, take}
use Rattle.mc_pages.specs.declared.eviction.TheConstants.{EVICTION_TRIES}
use Rattle.mc_pages.specs.declared.ids.ChunkId.{ChunkId}
use Rattle.mc_pages.specs.SlabState.{SlabState, class_at}

-- how many of the oldest chunks of a class an eviction looks at
abbrev pub eviction_tries : ℕ
eviction_tries = EVICTION_TRIES

-- the chunks that an eviction looks at: the oldest that the class handed out, or all of fewer
abbrev pub eviction_candidates : SlabState → ℕ → List ChunkId
eviction_candidates slabs class = take eviction_tries (class_at slabs class).order
