use Rattle.std.proofs.Common.{◌≡◌, ◌++◌, string_bytes}
use Rattle.mc_picture.specs.Lines.{entry_lines}
use Rattle.mc_picture.proofs.ledger.write_entries.Given as goal

-- the lines of the entries so far
abbrev pub invariant-loop-place : goal.invariant-loop-place
invariant-loop-place l = string_bytes l.text ≡ string_bytes l.initial.text ++ entry_lines l.ledger l.place
