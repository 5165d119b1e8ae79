use Rattle.mc_cache.specs.Belonging.{BelongsTo}
use Rattle.mc_stats.specs.Counting.{worker_in}
use Rattle.test_update.proofs.tests.counting.act_often.Given as goal

abbrev pub invariant-loop : goal.invariant-loop
invariant-loop g l = BelongsTo l.cache (worker_in l.counting)
