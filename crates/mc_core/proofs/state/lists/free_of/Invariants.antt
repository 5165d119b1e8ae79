use Rattle.std.proofs.Common.{◌≡◌, ◌-◌, ◌≤◌, length, take, vec_len}
use Rattle.mc_pages.specs.SlabState.{class_at}
use Rattle.mc_core.proofs.state.lists.free_of.Given as goal

-- the first chunks of the list were copied
abbrev pub invariant-loop-chunk : goal.invariant-loop-chunk
invariant-loop-chunk l = (l.chunks.items ≡ take (vec_len l.chunks) (class_at l.slabs.state l.class).free) × (vec_len l.chunks ≤ length (class_at l.slabs.state l.class).free)

abbrev pub decreases-loop-chunk : goal.decreases-loop-chunk
decreases-loop-chunk l = length (class_at l.slabs.state l.class).free - vec_len l.chunks
