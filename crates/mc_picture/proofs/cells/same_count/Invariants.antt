use Rattle.std.proofs.Common.{◌≡◌, ◌+◌, ◌≤◌, drop}
use Rattle.mc_picture.specs.Cells.{same_count}
use Rattle.mc_picture.proofs.cells.same_count.Given as goal

-- the owners so far are this one, and those that are left go on
abbrev pub invariant-loop-other : goal.invariant-loop-other
invariant-loop-other l = record {
  within_limit : l.count ≤ l.other-index;
  counted : l.count + same_count l.owner (drop l.other-index l.owners) ≡ same_count l.owner l.owners;
}
