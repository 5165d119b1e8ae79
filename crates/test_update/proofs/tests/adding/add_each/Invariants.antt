use Rattle.mc_cache.specs.Belonging.{BelongsTo}
use Rattle.test_update.proofs.tests.adding.add_each.Given as goal

abbrev pub invariant-loop-key : goal.invariant-loop-key
invariant-loop-key g l = BelongsTo l.cache l.worker
