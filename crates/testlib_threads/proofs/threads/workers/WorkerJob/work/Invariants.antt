use Rattle.testlib_hands.specs.Pairs.{AreIdle}
use Rattle.testlib_threads.proofs.threads.workers.WorkerJob.work.Given as goal

abbrev pub invariant-loop-number : goal.invariant-loop-number
invariant-loop-number g l = AreIdle l.arena l.pair
