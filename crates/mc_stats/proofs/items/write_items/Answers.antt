use Rattle.std.proofs.Common.{List, ◌++◌, ap, length}
use Rattle.std.specs.Prelude.{codes}
use Rattle.mc_watch.specs.Texts.{line}
use Rattle.mc_watch.proofs.Writes.{appends_then}
use Rattle.mc_cache.specs.declared.stats.ClassStats.{ClassStats}
use Rattle.mc_stats.specs.Items.{lines_of_first_items}
use Rattle.mc_stats.proofs.items.write_items.Goals as goal

pub returns-clause-bytes : goal.returns-clause-bytes
returns-clause-bytes g c =
    let items = c.args.items.now in
    appends_then _ _ _ _ _ _ _ c.in_ok-write_each.ensures.bytes c.write_all.ensures.bytes
    (ap (λ (rows : List ClassStats). lines_of_first_items items rows (length items) ++ line (codes "END")) c.deref.ensures.value)
