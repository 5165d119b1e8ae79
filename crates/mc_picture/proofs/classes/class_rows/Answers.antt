use Rattle.std.proofs.Common.{◌≡◌, ℕ, ◌+◌, List, [], ◌∷◌, ◌++◌, length, ap₂, sym, ◌∙◌, arith, rules}
use Rattle.std.proofs.lemmas.List.FromFn.{map-range_with_len_more}
use Rattle.mc_classes.specs.Classes.{Classes}
use Rattle.mc_picture.specs.declared.classes.ClassRow.{ClassRow}
use Rattle.mc_picture.specs.Rows.{row_of, class_table_rows}
use Rattle.mc_picture.proofs.FewRows.{few_rows}
use Rattle.mc_picture.proofs.classes.class_rows.Goals as goal

-- one row behind those that are there
next_row : (table : Classes) (place : ℕ) (rows new : List ClassRow) (row : ClassRow) → new ≡ rows ++ row ∷ [] → rows ≡ class_table_rows table place → row ≡ row_of table (place + 1) → new ≡ class_table_rows table (place + 1)
next_row table place rows new row new_is rows_is row_is =
    new_is ∙ ap₂ (λ (xs : List ClassRow) (x : ClassRow). xs ++ x ∷ []) rows_is row_is
    ∙ sym (map-range_with_len_more (λ (k : ℕ). row_of table (k + 1)) 0 place place (omega arith))

pub loop-place-preserved : goal.loop-place-preserved
loop-place-preserved c =
    let pushed : c.push.new.list.items ≡ c.loop-place.rows.items ++ c.class_row.result ∷ [] = search rules in
    next_row c.args.table.now c.loop-place.place c.loop-place.rows.items c.push.new.list.items c.class_row.result pushed c.loop-place.invariant c.class_row.ensures.row

pub returns-clause-within_limit : goal.returns-clause-within_limit
returns-clause-within_limit c =
    let all : c.loop-place.rows.items ≡ class_table_rows c.args.table.now (length c.args.table.now.sizes) = search rules in
    few_rows c.args.table.now c.loop-place.rows.items all c.count-place-end.ensures.sound
