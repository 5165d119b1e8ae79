use Rattle.std.proofs.Common.{◌≡◌, drop}
use Rattle.mc_core.specs.run.Items.{are_same}
use Rattle.mc_core.proofs.words.are_same.Given as goal

-- what is left is the same exactly where all of it is
abbrev pub invariant-loop-place : goal.invariant-loop-place
invariant-loop-place l = are_same (drop l.place l.words) (drop l.place l.item) ≡ are_same l.words l.item
