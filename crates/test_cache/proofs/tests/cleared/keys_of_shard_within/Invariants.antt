use Rattle.mc_cache.specs.Resting.{RestsIn}
use Rattle.test_cache.proofs.tests.cleared.keys_of_shard_within.Given as goal

abbrev pub invariant-loop-stripe : goal.invariant-loop-stripe
invariant-loop-stripe l = RestsIn l.cache l.worker
