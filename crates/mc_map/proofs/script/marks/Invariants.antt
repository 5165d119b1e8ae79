use Rattle.std.proofs.Common.{◌≡◌, ◌+◌, ◌≤◌, ◌++◌, length}
use Rattle.std.specs.Str.Lines.{lines}
use Rattle.mc_map.specs.Marks.{script_marks}
use Rattle.mc_map.proofs.script.marks.Given as goal

-- the marks so far, before those of the lines that are left, are the script's
abbrev pub invariant-loop-line : goal.invariant-loop-line
invariant-loop-line l =
    record {
      can : (goal.iterator-loop-line).can_next l.line-iterator;
      ends : (goal.iterator-loop-line).is_finite l.line-iterator;
      numbered : l.number + length (lines l.line-iterator.rest.now) ≤ length (lines l.bytes);
      fewer : l.done ≤ l.number;
      told : l.marks.items ++ script_marks l.number l.done (lines l.line-iterator.rest.now) ≡ script_marks 0 0 (lines l.bytes);
    }
