use Rattle.std.proofs.Common.{◌≡◌, false, drop}
use Rattle.std.specs.List.{fold}
use Rattle.mc_core.specs.model.Looks.{stays_alive}
use Rattle.mc_core.proofs.look.is_found_alive.Given as goal

-- the looks that are left make the same of what was found so far as all of them of nothing
abbrev pub invariant-loop-look : goal.invariant-loop-look
invariant-loop-look l = fold (stays_alive l.chunk) l.alive (drop l.look-index l.looks) ≡ fold (stays_alive l.chunk) false l.looks
