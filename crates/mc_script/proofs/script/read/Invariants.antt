use Rattle.std.proofs.Common.{◌≡◌, ◌+◌, ◌≤◌, length}
use Rattle.std.specs.Str.Lines.{lines}
use Rattle.mc_script.specs.Script.{commands_of, script_of}
use Rattle.mc_script.proofs.Told.{after_front}
use Rattle.mc_script.proofs.script.read.Given as goal

-- the commands so far, before those of the lines that are left, are the script's
abbrev pub invariant-loop-line : goal.invariant-loop-line
invariant-loop-line l =
    record {
      can : (goal.iterator-loop-line).can_next l.line-iterator;
      ends : (goal.iterator-loop-line).is_finite l.line-iterator;
      numbered : l.number + length (lines l.line-iterator.rest.now) ≤ length (lines l.bytes);
      told : after_front l.commands.items (commands_of (l.number + 1) (lines l.line-iterator.rest.now)) ≡ script_of l.bytes;
    }
