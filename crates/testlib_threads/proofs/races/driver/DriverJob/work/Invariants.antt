use Rattle.testlib_hands.specs.Hands.{IsEmptyHandOf}
use Rattle.testlib_threads.proofs.races.driver.DriverJob.work.Given as goal

abbrev pub invariant-loop-round : goal.invariant-loop-round
invariant-loop-round g l = IsEmptyHandOf l.arena l.mover.hand
