use Rattle.mc_cache.specs.Belonging.{BelongsTo}
use Rattle.test_update.proofs.tests.mixed.play_often.Given as goal

abbrev pub invariant-loop-calls : goal.invariant-loop-calls
invariant-loop-calls g l = BelongsTo l.cache l.worker
