use Rattle.std.proofs.Common.{string_bytes}
use Rattle.mc_picture.specs.Drawn.{TextExtends}
use Rattle.mc_picture.proofs.chart.write_axis.Given as goal

-- the text goes on from the one before
abbrev pub invariant-loop-place : goal.invariant-loop-place
invariant-loop-place l = TextExtends (string_bytes l.initial.text) (string_bytes l.text)
