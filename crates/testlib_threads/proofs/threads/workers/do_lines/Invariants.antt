use Rattle.testlib_hands.specs.Hands.{IsEmptyHandOf}
use Rattle.testlib_threads.proofs.threads.workers.do_lines.Given as goal

abbrev pub invariant-loop-line : goal.invariant-loop-line
invariant-loop-line g l = IsEmptyHandOf l.arena l.hand
