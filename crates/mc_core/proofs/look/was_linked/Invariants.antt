use Rattle.std.proofs.Common.{◌≡◌, false, drop}
use Rattle.std.specs.List.{fold}
use Rattle.mc_core.specs.model.Looks.{stays_linked}
use Rattle.mc_core.proofs.look.was_linked.Given as goal

-- the looks that are left make the same of what was found so far as all of them of nothing
abbrev pub invariant-loop-look : goal.invariant-loop-look
invariant-loop-look l = fold (stays_linked l.chunk) l.linked (drop l.look-index l.looks) ≡ fold (stays_linked l.chunk) false l.looks
