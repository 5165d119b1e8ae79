use Rattle.std.proofs.Common.{◌≡◌, ◌++◌, string_bytes}
use Rattle.std.specs.Prelude.{map}
use Rattle.mc_picture.specs.Cells.{cells_text}
use Rattle.mc_picture.proofs.cells.write_cells.Given as goal

-- the rows of the pages so far
abbrev pub invariant-loop-page : goal.invariant-loop-page
invariant-loop-page l = string_bytes l.text ≡ string_bytes l.initial.text ++ cells_text (map (λ column. column.items) l.columns) l.page
