use Rattle.std.proofs.Common.{◌≡◌, ◌++◌, drop, flat_map, string_bytes}
use Rattle.mc_picture.specs.Maps.{line_text}
use Rattle.mc_picture.proofs.lines.write_each_line.Given as goal

-- the lines so far, and those that are left
abbrev pub invariant-loop-line : goal.invariant-loop-line
invariant-loop-line l = string_bytes l.text ++ flat_map line_text (drop l.line-index l.lines) ≡ string_bytes l.initial.text ++ flat_map line_text l.lines
