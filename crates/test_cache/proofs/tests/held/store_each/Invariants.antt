use Rattle.mc_shard.specs.Hands.{IsIdleHandOf}
use Rattle.test_cache.proofs.tests.held.store_each.Given as goal

abbrev pub invariant-loop-hash : goal.invariant-loop-hash
invariant-loop-hash g l = IsIdleHandOf l.arena l.hand
