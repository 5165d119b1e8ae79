use Rattle.std.proofs.Common.{◌+◌, ◌≤◌, length}
use Rattle.std.specs.Str.Lines.{lines}
use Rattle.mc_replay.proofs.run.play_all.Given as goal

-- the number is that of the next line
abbrev pub invariant-loop-line : goal.invariant-loop-line
invariant-loop-line g l =
    record {
      can : (goal.iterator-loop-line g).can_next l.line-iterator;
      ends : (goal.iterator-loop-line g).is_finite l.line-iterator;
      numbered : l.number + length (lines l.line-iterator.rest.now) ≤ length (lines l.bytes) + 1;
    }
