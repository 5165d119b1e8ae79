use Rattle.std.proofs.Common.{◌+◌, ◌∙◌, ℕ, add-one, subst, sym}
use Rattle.std.specs.Prelude.{slice_index_or}
use Rattle.std.specs.Io.KnownBytes.{Appends}
use Rattle.std.proofs.KnownBytes.{Appends-trans}
use Rattle.mc_watch.proofs.Writes.{extends_then}
use Rattle.mc_shard.specs.declared.class_items.ClassItems.{ClassItems}
use Rattle.mc_cache.specs.Stats.{no_statistics}
use Rattle.mc_cache.specs.declared.stats.ClassStats.{ClassStats}
use Rattle.mc_stats.specs.ClassMetrics.{sample_of_class, samples_of_first_classes}
use Rattle.mc_stats.proofs.class_metrics.write_samples.Goals as goal

pub loop-place-preserved : goal.loop-place-preserved
loop-place-preserved g c =
    let a = c.args in
    let before = c.loop-place.invariant in
    let place = c.loop-place.place in
    let old = g.W.Sink.contents a.writer.now in
    let middle = g.W.Sink.contents c.loop-place.writer in
    let new = g.W.Sink.contents c.write_sample.new.writer in
    let own = subst (λ (row : ClassStats). Appends middle new (sample_of_class a.name.now a.metric a.classes.now (place + 1) row c.items_at-own.result)) c.row_of-row.ensures c.in_ok-write_sample.ensures.bytes in
    let sample = subst (λ (items : ClassItems). Appends middle new (sample_of_class a.name.now a.metric a.classes.now (place + 1) (slice_index_or a.rows.now place no_statistics) items)) c.items_at-own.ensures own in
    record {
      bytes = subst (λ (n : ℕ). Appends old new (samples_of_first_classes a.name.now a.metric a.classes.now a.rows.now a.items.now n)) (sym (add-one place)) (Appends-trans _ _ _ _ _ before.bytes sample);
      quiet = c.in_ok-write_sample.ensures.ok ∙ before.quiet;
    }

pub returns-in_err-write_sample-clause-kept : goal.returns-in_err-write_sample-clause-kept
returns-in_err-write_sample-clause-kept g c = extends_then _ _ _ _ _ c.loop-place.invariant.bytes c.in_err-write_sample.ensures.kept
