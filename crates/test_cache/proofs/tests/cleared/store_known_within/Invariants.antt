use Rattle.mc_cache.specs.Resting.{RestsIn}
use Rattle.test_cache.proofs.tests.cleared.store_known_within.Given as goal

abbrev pub invariant-loop-number : goal.invariant-loop-number
invariant-loop-number l = RestsIn l.cache l.worker
