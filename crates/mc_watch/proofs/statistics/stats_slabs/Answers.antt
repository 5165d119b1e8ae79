use Rattle.std.proofs.Common.{ℕ, ap, ◌++◌}
use Rattle.mc_watch.specs.Texts.{classes_lines, totals_lines}
use Rattle.mc_watch.proofs.Writes.{appends_then}
use Rattle.mc_watch.proofs.statistics.stats_slabs.Goals as goal

pub returns-clause-bytes : goal.returns-clause-bytes
returns-clause-bytes g c =
    let a = c.args in
    appends_then _ _ _ _ _ _ _ c.in_ok-write_classes.ensures.bytes c.write_totals.ensures.bytes
    (ap (λ (active : ℕ). classes_lines a.table.now 1 a.pages.now a.free.now ++ totals_lines active a.malloced) c.active_count.ensures)
