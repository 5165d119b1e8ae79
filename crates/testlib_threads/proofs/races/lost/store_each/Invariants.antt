use Rattle.testlib_hands.specs.Hands.{IsEmptyHandOf}
use Rattle.testlib_threads.proofs.races.lost.store_each.Given as goal

abbrev pub invariant-loop-key : goal.invariant-loop-key
invariant-loop-key g l = IsEmptyHandOf l.arena l.hand
