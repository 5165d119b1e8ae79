use Rattle.std.proofs.Common.{List, subst}
use Rattle.std.specs.Prelude.{OnOk}
use Rattle.std.specs.Io.KnownBytes.{Appends}
use Rattle.mc_cache.specs.declared.stats.ClassStats.{ClassStats}
use Rattle.mc_stats.specs.ClassMetrics.{class_metrics_text}
use Rattle.mc_stats.proofs.class_metrics.write_class_metrics.Goals as goal

pub returns-clause-bytes : goal.returns-clause-bytes
returns-clause-bytes g c =
    let a = c.args in
    subst (λ (rows : List ClassStats). OnOk c.write_families.result (Appends (g.W.Sink.contents a.writer.now) (g.W.Sink.contents c.write_families.new.writer) (class_metrics_text a.classes.now rows a.items.now)))
    c.deref.ensures.value c.write_families.ensures.bytes
