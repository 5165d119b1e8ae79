use Rattle.std.proofs.Common.{◌≡◌, ◌++◌, drop, string_bytes}
use Rattle.mcmap.specs.Checked.{quoted_text}
use Rattle.mcmap.proofs.lines.write_quoted.Given as goal

-- the bytes so far, and those that are left
abbrev pub invariant-loop-byte : goal.invariant-loop-byte
invariant-loop-byte l = string_bytes l.text ++ quoted_text (drop l.byte-index l.word) ≡ string_bytes l.initial.text ++ quoted_text l.word
