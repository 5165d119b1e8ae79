use Rattle.mc_cache.specs.Belonging.{BelongsTo}
use Rattle.test_cache.proofs.tests.touching.finds_each_time.Given as goal

abbrev pub invariant-loop : goal.invariant-loop
invariant-loop g l = BelongsTo l.cache l.worker
