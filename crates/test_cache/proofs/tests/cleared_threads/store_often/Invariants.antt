use Rattle.mc_cache.specs.Belonging.{BelongsTo}
use Rattle.test_cache.proofs.tests.cleared_threads.store_often.Given as goal

abbrev pub invariant-loop-number : goal.invariant-loop-number
invariant-loop-number g l = BelongsTo l.cache l.worker
