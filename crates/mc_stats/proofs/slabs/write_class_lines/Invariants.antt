use Rattle.std.proofs.Common.{◌≡◌, take, flat_map}
use Rattle.std.specs.Io.KnownBytes.{Appends}
use Rattle.mc_stats.specs.Slabs.{labelled_line}
use Rattle.mc_stats.proofs.slabs.write_class_lines.Given as goal

-- the writer has the lines so far, and no write failed
abbrev pub invariant-loop-name : goal.invariant-loop-name
invariant-loop-name g l = record {
  bytes : Appends (g.W.Sink.contents l.initial.writer) (g.W.Sink.contents l.writer) (flat_map (λ number. labelled_line l.head l.class number.0.now number.1) (take l.name-index l.numbers));
  quiet : g.W.Sink.failures l.writer ≡ g.W.Sink.failures l.initial.writer;
}
