use Rattle.std.proofs.Common.{string_bytes}
use Rattle.mc_picture.specs.Drawn.{TextExtends}
use Rattle.mc_picture.proofs.chart.write_ends.Given as goal

-- the text goes on from the one before
abbrev pub invariant-loop-page : goal.invariant-loop-page
invariant-loop-page l = TextExtends (string_bytes l.initial.text) (string_bytes l.text)
