use Rattle.mc_cache.specs.Belonging.{BelongsTo}
use Rattle.test_update.proofs.tests.large.play_by.Given as goal

abbrev pub invariant-loop-step : goal.invariant-loop-step
invariant-loop-step g l = BelongsTo l.cache l.worker
