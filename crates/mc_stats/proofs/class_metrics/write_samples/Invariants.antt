use Rattle.std.proofs.Common.{◌≡◌}
use Rattle.std.specs.Io.KnownBytes.{Appends}
use Rattle.mc_stats.specs.ClassMetrics.{samples_of_first_classes}
use Rattle.mc_stats.proofs.class_metrics.write_samples.Given as goal

-- the writer has the samples of the classes so far, and no write failed
abbrev pub invariant-loop-place : goal.invariant-loop-place
invariant-loop-place g l = record {
  bytes : Appends (g.W.Sink.contents l.initial.writer) (g.W.Sink.contents l.writer) (samples_of_first_classes l.name l.metric l.classes l.rows l.items l.place);
  quiet : g.W.Sink.failures l.writer ≡ g.W.Sink.failures l.initial.writer;
}
