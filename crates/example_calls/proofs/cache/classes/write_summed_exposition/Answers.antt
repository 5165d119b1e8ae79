use Rattle.std.proofs.Common.{subst}
use Rattle.std.specs.Prelude.{OnOk}
use Rattle.std.specs.Io.KnownBytes.{Appends}
use Rattle.mc_stats.specs.ClassMetrics.{exposition_text}
use Rattle.mc_stats.specs.declared.counts.Counts.{Counts}
use Rattle.example_calls.proofs.cache.classes.write_summed_exposition.Goals as goal

pub returns-clause-bytes : goal.returns-clause-bytes
returns-clause-bytes g c =
    let a = c.args in
    subst (λ (counts : Counts). OnOk c.write_exposition.result (Appends (g.W.Sink.contents a.writer.now) (g.W.Sink.contents c.write_exposition.new.writer) (exposition_text counts a.classes.now a.stats.now.classes.items a.items.now)))
    c.sum_of.ensures c.write_exposition.ensures.bytes
