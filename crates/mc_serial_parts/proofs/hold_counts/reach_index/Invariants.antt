use Rattle.std.proofs.Common.{◌≡◌, ℕ, ◌+◌, ◌-◌, length, slice_index_or}
use Rattle.mc_serial_parts.proofs.hold_counts.reach_index.Given as goal

abbrev pub invariant-loop-counts : goal.invariant-loop-counts
invariant-loop-counts l = (at : ℕ) → slice_index_or l.counts.items at 0 ≡ slice_index_or l.initial.counts.items at 0

abbrev pub decreases-loop-counts : goal.decreases-loop-counts
decreases-loop-counts l = l.index + 1 - length l.counts.items
