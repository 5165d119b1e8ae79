use Rattle.std.proofs.Common.{List, ℕ, ◌++◌, ◌∙◌, ap, length}
use Rattle.std.specs.Prelude.{codes, count_by, nat_lt}
use Rattle.std.proofs.KnownBytes.{Appends-trans}
use Rattle.mc_watch.specs.Texts.{line, stat_line}
use Rattle.mc_watch.proofs.Writes.{appends_then}
use Rattle.mc_cache.specs.declared.stats.ClassStats.{ClassStats}
use Rattle.mc_stats.specs.Slabs.{bytes_of_pages, lines_of_first_classes}
use Rattle.mc_stats.proofs.ClassTexts.{two_lines_behind}
use Rattle.mc_stats.proofs.slabs.write_slabs.Goals as goal

pub returns-clause-bytes : goal.returns-clause-bytes
returns-clause-bytes g c =
    let table = c.args.classes.now in
    let rows = c.args.stats.now.classes.items in
    let count = length table.sizes in
    let active = λ (list : List ClassStats). count_by (λ row. nat_lt 0 row.pages) list in
    let text = λ (lines : List ℕ) (paged bytes : ℕ). ((lines ++ stat_line (codes "active_slabs") paged) ++ stat_line (codes "total_malloced") bytes) ++ line (codes "END") in
    appends_then _ _ _ _ _ _ _ (Appends-trans _ _ _ _ _ c.in_ok-write_classes.ensures.bytes c.in_ok-write_lines.ensures.bytes) c.write_all.ensures.bytes
    (two_lines_behind (lines_of_first_classes table c.deref.result.now count) (stat_line (codes "active_slabs") c.count_paged.result) (stat_line (codes "total_malloced") c.saturating_mul.result) (line (codes "END"))
    ∙ (ap (λ (list : List ClassStats). text (lines_of_first_classes table list count) c.count_paged.result c.saturating_mul.result) c.deref.ensures.value
    ∙ (ap (λ (n : ℕ). text (lines_of_first_classes table rows count) n c.saturating_mul.result) (c.count_paged.ensures ∙ ap active c.deref-2.ensures.value)
    ∙ ap (λ (n : ℕ). text (lines_of_first_classes table rows count) (active rows) n) (c.saturating_mul.ensures ∙ ap (λ (page : ℕ). bytes_of_pages (record table { page = page }) c.args.stats.now.granted) c.page.ensures.page))))
