use Rattle.std.proofs.Common.{List, ℕ, ◌∙◌, subst}
use Rattle.std.specs.Prelude.{OnOk, codes}
use Rattle.std.specs.Io.KnownBytes.{Appends}
use Rattle.mc_stats.specs.Slabs.{labelled_line}
use Rattle.mc_stats.proofs.ClassTexts.{items_lines, three_lines}
use Rattle.mc_stats.proofs.items.write_class_items.Goals as goal

pub returns-clause-bytes : goal.returns-clause-bytes
returns-clause-bytes g c =
    let a = c.args in
    let line = labelled_line (codes "STAT items:") a.class in
    subst (λ (text : List ℕ). OnOk c.write_class_lines.result (Appends (g.W.Sink.contents a.writer.now) (g.W.Sink.contents c.write_class_lines.new.writer) text))
    (three_lines (line (codes "number") a.items.items) (line (codes "mem_requested") a.items.bytes) (line (codes "evicted") a.row.evictions) ∙ items_lines a.class a.items a.row c.if-items-eq0.false)
    c.write_class_lines.ensures.bytes
