use Rattle.std.proofs.Common.{List, ℕ, ◌∙◌, subst}
use Rattle.std.specs.Prelude.{OnOk, codes}
use Rattle.std.specs.Io.KnownBytes.{Appends}
use Rattle.mc_watch.proofs.Writes.{six_lines}
use Rattle.mc_stats.specs.Slabs.{labelled_line}
use Rattle.mc_stats.proofs.ClassTexts.{paged_lines}
use Rattle.mc_stats.proofs.slabs.write_class.Goals as goal

pub returns-clause-bytes : goal.returns-clause-bytes
returns-clause-bytes g c =
    let a = c.args in
    let chunks = c.chunks-chunks.result in
    let line = labelled_line (codes "STAT ") a.class in
    subst (λ (text : List ℕ). OnOk c.write_class_lines.result (Appends (g.W.Sink.contents a.writer.now) (g.W.Sink.contents c.write_class_lines.new.writer) text))
    (six_lines (line (codes "chunk_size") chunks.chunk_bytes) (line (codes "chunks_per_page") chunks.per_page) (line (codes "total_pages") a.row.pages)
    (line (codes "total_chunks") chunks.chunks) (line (codes "used_chunks") chunks.used) (line (codes "free_chunks") a.row.free)
    ∙ paged_lines a.classes.now a.class a.row chunks c.if-row-eq0.false c.chunks-chunks.ensures.chunks)
    c.write_class_lines.ensures.bytes
