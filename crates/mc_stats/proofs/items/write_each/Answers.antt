use Rattle.std.proofs.Common.{◌+◌, ◌∙◌, ℕ, add-one, subst, sym}
use Rattle.std.specs.Prelude.{slice_index_or}
use Rattle.std.specs.Io.KnownBytes.{Appends}
use Rattle.std.proofs.KnownBytes.{Appends-trans}
use Rattle.mc_watch.proofs.Writes.{extends_then}
use Rattle.mc_shard.specs.declared.class_items.ClassItems.{ClassItems}
use Rattle.mc_cache.specs.Stats.{no_statistics}
use Rattle.mc_cache.specs.declared.stats.ClassStats.{ClassStats}
use Rattle.mc_stats.specs.Items.{lines_of_first_items, lines_of_items}
use Rattle.mc_stats.proofs.items.write_each.Goals as goal

pub loop-place-preserved : goal.loop-place-preserved
loop-place-preserved g c =
    let a = c.args in
    let before = c.loop-place.invariant in
    let place = c.loop-place.place in
    let old = g.W.Sink.contents a.writer.now in
    let middle = g.W.Sink.contents c.loop-place.writer in
    let new = g.W.Sink.contents c.write_class_items.new.writer in
    let own = subst (λ (row : ClassStats). Appends middle new (lines_of_items (place + 1) c.items_at.result row)) c.row_of-row.ensures c.in_ok-write_class_items.ensures.bytes in
    let line = subst (λ (items : ClassItems). Appends middle new (lines_of_items (place + 1) items (slice_index_or a.rows.now place no_statistics))) c.items_at.ensures own in
    record {
      bytes = subst (λ (n : ℕ). Appends old new (lines_of_first_items a.items.now a.rows.now n)) (sym (add-one place)) (Appends-trans _ _ _ _ _ before.bytes line);
      quiet = c.in_ok-write_class_items.ensures.ok ∙ before.quiet;
    }

pub returns-in_err-write_class_items-clause-kept : goal.returns-in_err-write_class_items-clause-kept
returns-in_err-write_class_items-clause-kept g c = extends_then _ _ _ _ _ c.loop-place.invariant.bytes c.in_err-write_class_items.ensures.kept
