use Rattle.std.proofs.Common.{◌≡◌, drop}
use Rattle.mc_picture.specs.Maps.{no_line, sum_with}
use Rattle.mc_picture.proofs.lines.sum_of.Given as goal

-- the counts so far, with those of the lines that are left, are those of all
abbrev pub invariant-loop-line : goal.invariant-loop-line
invariant-loop-line l = sum_with l.sum (drop l.line-index l.lines) ≡ sum_with no_line l.lines
