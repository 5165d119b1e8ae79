use Rattle.mc_cache.specs.Belonging.{BelongsTo}
use Rattle.test_cache.proofs.tests.cleared.keys_of_all.Given as goal

abbrev pub invariant-loop-shard : goal.invariant-loop-shard
invariant-loop-shard g l = BelongsTo l.cache l.worker
