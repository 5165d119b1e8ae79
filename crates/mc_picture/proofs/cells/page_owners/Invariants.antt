use Rattle.std.proofs.Common.{◌≡◌, ◌++◌, drop}
use Rattle.std.specs.Prelude.{map}
use Rattle.mc_picture.specs.Cells.{page_owners}
use Rattle.mc_picture.proofs.cells.page_owners.Given as goal

-- the owners so far, and those in the columns that are left
abbrev pub invariant-loop-column : goal.invariant-loop-column
invariant-loop-column l =
    l.owners.items ++ page_owners (map (λ column. column.items) (drop l.column-index l.columns)) l.page ≡ page_owners (map (λ column. column.items) l.columns) l.page
