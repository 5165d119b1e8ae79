use Rattle.mc_cache.specs.Belonging.{BelongsTo}
use Rattle.test_update.proofs.tests.deadlines.play_in.Given as goal

abbrev pub invariant-loop-row : goal.invariant-loop-row
invariant-loop-row g l = BelongsTo l.cache l.worker
