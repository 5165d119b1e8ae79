use Rattle.std.proofs.Common.{◌≡◌, take}
use Rattle.mc_stats.specs.Items.{evictions_in_all}
use Rattle.mc_stats.proofs.items.sum_of_evictions.Given as goal

-- the sum has the evictions of the classes so far
abbrev pub invariant-loop-row : goal.invariant-loop-row
invariant-loop-row l = l.all ≡ evictions_in_all (take l.row-index l.rows)
