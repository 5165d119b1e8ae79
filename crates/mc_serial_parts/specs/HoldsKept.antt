-- What the workers' holds in memory mean.
use Rattle.std.specs.Prelude.{◌≡◌, ◌≤◌, length, map, reverse, All}
use Rattle.mc_pages.specs.declared.ids.ChunkId.{ChunkId}
use Rattle.mc_serial_spec.specs.Holds.{Holds, hold_count, most_holds}
use Rattle.mc_serial_parts.specs.CountsByPlace.{count_at}
use Rattle.mc_serial_parts.specs.declared.holds.Holds.TheInside.{Inside}

-- the chunks that each worker holds, the last hold first; in the vector the last hold is last
abbrev pub stored_holds : Inside → Holds
stored_holds holds = map (λ chunks. reverse chunks.items) holds.by_worker.items

-- the holds have a list for each worker, none is too long, and each chunk's holds are counted
pub record AreHolds (holds : Inside) : Type 0 where
  pub of_each : length holds.by_worker.items ≡ 64
  pub within_limit : All (λ chunks. length chunks ≤ most_holds) (stored_holds holds)
  pub counted : (chunk : ChunkId) → count_at holds.counts chunk ≡ hold_count (stored_holds holds) chunk
