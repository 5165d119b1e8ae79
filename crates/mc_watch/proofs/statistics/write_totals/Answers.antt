use Rattle.std.specs.Prelude.{codes}
use Rattle.mc_watch.specs.Texts.{line, stat_line}
use Rattle.mc_watch.proofs.Writes.{appends_then, two_lines}
use Rattle.mc_watch.proofs.statistics.write_totals.Goals as goal

pub returns-clause-bytes : goal.returns-clause-bytes
returns-clause-bytes g c =
    appends_then _ _ _ _ _ _ _ c.in_ok-write_stats.ensures.bytes c.write_all.ensures.bytes
    (two_lines (stat_line (codes "active_slabs") c.args.active) (stat_line (codes "total_malloced") c.args.malloced) (line (codes "END")))
