use Rattle.std.proofs.Common.{ℕ, ◌++◌, ◌∙◌, ap, ap₂}
use Rattle.std.specs.Prelude.{codes}
use Rattle.mc_watch.specs.Texts.{line, stat_line}
use Rattle.mc_watch.proofs.Writes.{appends_then}
use Rattle.mc_shard.specs.declared.class_items.ClassItems.{ClassItems}
use Rattle.mc_stats.specs.Items.{evictions_in_all}
use Rattle.mc_stats.proofs.ClassTexts.{three_lines_behind}
use Rattle.mc_stats.proofs.items.write_usage.Goals as goal

pub returns-clause-bytes : goal.returns-clause-bytes
returns-clause-bytes g c =
    let all = c.sum_of_items-all.result in
    appends_then _ _ _ _ _ _ _ c.in_ok-write_lines.ensures.bytes c.write_all.ensures.bytes
    (three_lines_behind (stat_line (codes "curr_items") all.items) (stat_line (codes "bytes") all.bytes) (stat_line (codes "evictions") c.sum_of_evictions.result) (line (codes "END"))
    ∙ ap₂ (λ (sum : ClassItems) (evictions : ℕ). ((stat_line (codes "curr_items") sum.items ++ stat_line (codes "bytes") sum.bytes) ++ stat_line (codes "evictions") evictions) ++ line (codes "END"))
    c.sum_of_items-all.ensures (c.sum_of_evictions.ensures ∙ ap evictions_in_all c.deref.ensures.value))
