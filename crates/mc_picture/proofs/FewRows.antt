-- How many rows there are.
use Rattle.std.proofs.Common.{◌≡◌, ℕ, ◌+◌, ◌≤◌, List, length, ap, ◌∙◌, arith}
use Rattle.std.proofs.lemmas.List.FromFn.{length-map-range_with_len}
use Rattle.mc_classes.specs.Classes.{Classes, IsSound}
use Rattle.mc_picture.specs.declared.classes.ClassRow.{ClassRow}
use Rattle.mc_picture.specs.Rows.{row_of, class_table_rows}

-- a table has no more classes than 63
pub few_rows : (table : Classes) (rows : List ClassRow) → rows ≡ class_table_rows table (length table.sizes) → IsSound table → length rows ≤ 63
few_rows table rows is sound =
    let as_many : length rows ≡ length table.sizes = ap length is ∙ length-map-range_with_len (λ (k : ℕ). row_of table (k + 1)) 0 (length table.sizes) in
    let within_limit : length table.sizes ≤ 63 = sound.count.1 in
    omega (arith, as_many, within_limit)
