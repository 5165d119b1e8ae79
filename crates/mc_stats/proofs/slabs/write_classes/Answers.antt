use Rattle.std.proofs.Common.{◌+◌, ◌∙◌, ℕ, add-one, subst, sym}
use Rattle.std.specs.Io.KnownBytes.{Appends}
use Rattle.std.proofs.KnownBytes.{Appends-trans}
use Rattle.mc_watch.proofs.Writes.{extends_then}
use Rattle.mc_cache.specs.declared.stats.ClassStats.{ClassStats}
use Rattle.mc_stats.specs.Slabs.{lines_of_class, lines_of_first_classes}
use Rattle.mc_stats.proofs.slabs.write_classes.Goals as goal

pub loop-place-preserved : goal.loop-place-preserved
loop-place-preserved g c =
    let a = c.args in
    let before = c.loop-place.invariant in
    let place = c.loop-place.place in
    let old = g.W.Sink.contents a.writer.now in
    let new = g.W.Sink.contents c.write_class.new.writer in
    let line = subst (λ (row : ClassStats). Appends (g.W.Sink.contents c.loop-place.writer) new (lines_of_class a.classes.now (place + 1) row)) c.row_of.ensures c.in_ok-write_class.ensures.bytes in
    record {
      bytes = subst (λ (n : ℕ). Appends old new (lines_of_first_classes a.classes.now a.rows.now n)) (sym (add-one place)) (Appends-trans _ _ _ _ _ before.bytes line);
      quiet = c.in_ok-write_class.ensures.ok ∙ before.quiet;
    }

pub returns-in_err-write_class-clause-kept : goal.returns-in_err-write_class-clause-kept
returns-in_err-write_class-clause-kept g c = extends_then _ _ _ _ _ c.loop-place.invariant.bytes c.in_err-write_class.ensures.kept
