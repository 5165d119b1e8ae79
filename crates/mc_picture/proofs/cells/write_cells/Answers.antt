use Rattle.std.proofs.Common.{ℕ, ◌+◌, ◌*◌, ◌∙◌, ap, length, List}
use Rattle.std.specs.Prelude.{map}
use Rattle.mc_pages.specs.declared.ledger.Owner.{Owner}
use Rattle.mc_picture.specs.Cells.{page_row_text, runs_text}
use Rattle.mc_picture.proofs.Ranges.{written_next}
use Rattle.mc_picture.proofs.cells.write_cells.Goals as goal

pub loop-page-preserved : goal.loop-page-preserved
loop-page-preserved c =
    let columns = map (λ column. column.items) c.args.columns.now in
    written_next (page_row_text columns) c.loop-page.page _ _ _ _ c.loop-page.invariant c.in_ok-write_runs.ensures.runs
    (ap (λ (y : ℕ). runs_text c.as_slice.result.now y (length c.as_slice.result.now)) c.row_at.ensures
    ∙ ap (λ (owners : List Owner). runs_text owners (64 + c.loop-page.page * 20) (length owners)) (c.as_slice.ensures.value ∙ c.in_ok-owners.ensures.owners))
