use Rattle.std.proofs.Common.{◌≡◌, ◌++◌, string_bytes}
use Rattle.mc_picture.specs.Cells.{runs_text}
use Rattle.mc_picture.proofs.cells.write_runs.Given as goal

-- the boxes of the columns so far
abbrev pub invariant-loop-place : goal.invariant-loop-place
invariant-loop-place l = string_bytes l.text ≡ string_bytes l.initial.text ++ runs_text l.owners l.y l.place
