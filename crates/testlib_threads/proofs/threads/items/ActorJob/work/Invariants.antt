use Rattle.std.proofs.Common.{◌≤◌}
use Rattle.testlib_hands.specs.Pairs.{AreIdle}
use Rattle.testlib_threads.proofs.threads.items.ActorJob.work.Given as goal

abbrev pub invariant-loop-round : goal.invariant-loop-round
invariant-loop-round g l = AreIdle l.arena l.pair × (l.wrong ≤ l.round)
