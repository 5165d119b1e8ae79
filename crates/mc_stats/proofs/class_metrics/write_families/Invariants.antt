use Rattle.std.proofs.Common.{◌≡◌, take, flat_map}
use Rattle.std.specs.Io.KnownBytes.{Appends}
use Rattle.mc_stats.specs.ClassMetrics.{family_text}
use Rattle.mc_stats.proofs.class_metrics.write_families.Given as goal

-- the writer has the metrics so far, and no write failed
abbrev pub invariant-loop-family : goal.invariant-loop-family
invariant-loop-family g l = record {
  bytes : Appends (g.W.Sink.contents l.initial.writer) (g.W.Sink.contents l.writer)
      (flat_map (λ family. family_text l.classes l.rows l.items family.head.now family.name.now family.metric) (take l.family-index l.families));
  quiet : g.W.Sink.failures l.writer ≡ g.W.Sink.failures l.initial.writer;
}
