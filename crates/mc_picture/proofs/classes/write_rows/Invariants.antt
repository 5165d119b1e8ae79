use Rattle.std.proofs.Common.{◌≡◌, ◌++◌, drop, flat_map, string_bytes}
use Rattle.mc_picture.specs.Tables.{row_text}
use Rattle.mc_picture.proofs.classes.write_rows.Given as goal

-- the lines so far, and those that are left
abbrev pub invariant-loop-row : goal.invariant-loop-row
invariant-loop-row l = string_bytes l.text ++ flat_map row_text (drop l.row-index l.rows) ≡ string_bytes l.initial.text ++ flat_map row_text l.rows
