use Rattle.std.proofs.Common.{◌≡◌, take}
use Rattle.mc_stats.specs.Items.{items_in_all}
use Rattle.mc_stats.proofs.items.sum_of_items.Given as goal

-- the sum has the items of the classes so far
abbrev pub invariant-loop-row : goal.invariant-loop-row
invariant-loop-row l = l.all ≡ items_in_all (take l.row-index l.rows)
