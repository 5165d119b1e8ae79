use Rattle.mc_cache.specs.Belonging.{BelongsTo}
use Rattle.test_cache.proofs.tests.rows.play.Given as goal

abbrev pub invariant-loop-place : goal.invariant-loop-place
invariant-loop-place g l = BelongsTo l.cache l.worker
