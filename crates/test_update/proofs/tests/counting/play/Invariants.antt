use Rattle.mc_cache.specs.Belonging.{BelongsTo}
use Rattle.mc_stats.specs.Counting.{worker_in}
use Rattle.test_update.proofs.tests.counting.play.Given as goal

abbrev pub invariant-loop-row : goal.invariant-loop-row
invariant-loop-row g l = BelongsTo l.cache (worker_in l.counting)
