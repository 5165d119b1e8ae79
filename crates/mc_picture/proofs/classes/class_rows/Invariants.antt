use Rattle.std.proofs.Common.{◌≡◌}
use Rattle.mc_picture.specs.Rows.{class_table_rows}
use Rattle.mc_picture.proofs.classes.class_rows.Given as goal

-- the rows so far are those of their classes
abbrev pub invariant-loop-place : goal.invariant-loop-place
invariant-loop-place l = l.rows.items ≡ class_table_rows l.table l.place
