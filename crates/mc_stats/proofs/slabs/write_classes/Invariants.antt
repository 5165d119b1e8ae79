use Rattle.std.proofs.Common.{◌≡◌}
use Rattle.std.specs.Io.KnownBytes.{Appends}
use Rattle.mc_stats.specs.Slabs.{lines_of_first_classes}
use Rattle.mc_stats.proofs.slabs.write_classes.Given as goal

-- the writer has the lines of the classes so far, and no write failed
abbrev pub invariant-loop-place : goal.invariant-loop-place
invariant-loop-place g l = record {
  bytes : Appends (g.W.Sink.contents l.initial.writer) (g.W.Sink.contents l.writer) (lines_of_first_classes l.classes l.rows l.place);
  quiet : g.W.Sink.failures l.writer ≡ g.W.Sink.failures l.initial.writer;
}
