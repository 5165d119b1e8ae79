use Rattle.std.proofs.Common.{◌≡◌, take, flat_map}
use Rattle.std.specs.Io.KnownBytes.{Appends}
use Rattle.mc_stats.specs.Texts.{sample_line}
use Rattle.mc_stats.proofs.openmetrics.write_samples.Given as goal

-- the writer has the lines so far, and no write failed
abbrev pub invariant-loop-name : goal.invariant-loop-name
invariant-loop-name g l = record {
  bytes : Appends (g.W.Sink.contents l.initial.writer) (g.W.Sink.contents l.writer) (flat_map (λ sample. sample_line sample.0.now sample.1) (take l.name-index l.samples));
  quiet : g.W.Sink.failures l.writer ≡ g.W.Sink.failures l.initial.writer;
}
