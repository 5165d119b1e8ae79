use Rattle.std.proofs.Common.{◌≡◌, ◌++◌, drop, flat_map, string_bytes}
use Rattle.mc_picture.specs.Moves.{blocker_line}
use Rattle.mc_picture.proofs.hang.write_blockers.Given as goal

-- the lines so far, and those that are left
abbrev pub invariant-loop-blocker : goal.invariant-loop-blocker
invariant-loop-blocker l = string_bytes l.text ++ flat_map blocker_line (drop l.blocker-index l.blockers) ≡ string_bytes l.initial.text ++ flat_map blocker_line l.blockers
