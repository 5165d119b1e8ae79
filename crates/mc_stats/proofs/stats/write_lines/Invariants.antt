use Rattle.std.proofs.Common.{◌≡◌, take, flat_map}
use Rattle.std.specs.Io.KnownBytes.{Appends}
use Rattle.mc_watch.specs.Texts.{stat_line}
use Rattle.mc_stats.proofs.stats.write_lines.Given as goal

-- the writer has the lines so far, and no write failed
abbrev pub invariant-loop-name : goal.invariant-loop-name
invariant-loop-name g l = record {
  bytes : Appends (g.W.Sink.contents l.initial.writer) (g.W.Sink.contents l.writer) (flat_map (λ count. stat_line count.0.now count.1) (take l.name-index l.counts));
  quiet : g.W.Sink.failures l.writer ≡ g.W.Sink.failures l.initial.writer;
}
