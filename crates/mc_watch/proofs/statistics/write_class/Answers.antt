use Rattle.std.proofs.Common.{List, ℕ, subst, ◌*◌, ◌-◌}
use Rattle.std.specs.Prelude.{OnOk, codes}
use Rattle.std.specs.Io.KnownBytes.{Appends}
use Rattle.mc_watch.specs.Texts.{class_line}
use Rattle.mc_watch.proofs.Writes.{six_lines}
use Rattle.mc_watch.proofs.statistics.write_class.Goals as goal

pub returns-clause-bytes : goal.returns-clause-bytes
returns-clause-bytes g c =
    let a = c.args in
    subst (λ (text : List ℕ). OnOk c.write_class_stats.result (Appends (g.W.Sink.contents a.writer.now) (g.W.Sink.contents c.write_class_stats.new.writer) text))
    (six_lines (class_line a.class (codes "chunk_size") a.size) (class_line a.class (codes "chunks_per_page") a.per_page)
    (class_line a.class (codes "total_pages") a.pages) (class_line a.class (codes "total_chunks") (a.pages * a.per_page))
    (class_line a.class (codes "used_chunks") (a.pages * a.per_page - a.free)) (class_line a.class (codes "free_chunks") a.free))
    c.write_class_stats.ensures.bytes
