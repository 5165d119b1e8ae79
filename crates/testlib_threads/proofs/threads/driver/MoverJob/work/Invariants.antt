use Rattle.testlib_hands.specs.Hands.{IsEmptyHandOf}
use Rattle.testlib_threads.proofs.threads.driver.MoverJob.work.Given as goal

abbrev pub invariant-loop-round : goal.invariant-loop-round
invariant-loop-round g l = IsEmptyHandOf l.arena l.hand
