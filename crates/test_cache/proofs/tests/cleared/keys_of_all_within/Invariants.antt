use Rattle.mc_cache.specs.Resting.{RestsIn}
use Rattle.test_cache.proofs.tests.cleared.keys_of_all_within.Given as goal

abbrev pub invariant-loop-shard : goal.invariant-loop-shard
invariant-loop-shard l = RestsIn l.cache l.worker
