use Rattle.mc_shard.specs.Hands.{IsIdleHandOf}
use Rattle.test_cache.proofs.tests.collided.act_often.Given as goal

abbrev pub invariant-loop : goal.invariant-loop
invariant-loop g l = IsIdleHandOf l.arena l.hand
