use Rattle.mc_cache.specs.Resting.{RestsIn}
use Rattle.test_cache.proofs.tests.rows_within.play_within.Given as goal

abbrev pub invariant-loop-place : goal.invariant-loop-place
invariant-loop-place l = RestsIn l.cache l.worker
