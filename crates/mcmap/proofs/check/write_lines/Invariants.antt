use Rattle.std.proofs.Common.{◌≡◌, ◌+◌, ◌≤◌, length}
use Rattle.std.specs.Str.Lines.{lines}
use Rattle.mcmap.specs.Checked.{wrong_count}
use Rattle.mcmap.proofs.check.write_lines.Given as goal

-- the wrong lines so far, and those of the lines that are left, are the script's
abbrev pub invariant-loop-line : goal.invariant-loop-line
invariant-loop-line l =
    record {
      can : (goal.iterator-loop-line).can_next l.line-iterator;
      ends : (goal.iterator-loop-line).is_finite l.line-iterator;
      numbered : l.number + length (lines l.line-iterator.rest.now) ≤ length (lines l.bytes);
      fewer : l.wrong ≤ l.number;
      counted : l.wrong + wrong_count (lines l.line-iterator.rest.now) ≡ wrong_count (lines l.bytes);
    }
