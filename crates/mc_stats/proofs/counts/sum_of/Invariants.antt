use Rattle.std.proofs.Common.{◌≡◌, take}
use Rattle.mc_stats.specs.Counts.{sum_of_counts}
use Rattle.mc_stats.proofs.counts.sum_of.Given as goal

-- the sum of the counts so far
abbrev pub invariant-loop-counts : goal.invariant-loop-counts
invariant-loop-counts l = l.sum ≡ sum_of_counts (take l.counts-index l.all)
