use Rattle.mc_shard.specs.Hands.{IsUnusedHandOf}
use Rattle.mc_cache.specs.declared.cache.Worker.{Worker}
use Rattle.mc_cache.proofs.Dealt.{AreDealt}
use Rattle.mc_cache.proofs.opening.deal.Given as goal

abbrev pub invariant-loop-worker : goal.invariant-loop-worker
invariant-loop-worker l = AreDealt IsUnusedHandOf (λ (worker : Worker). worker.hands.items) l.arenas l.workers l.worker-index l.hands.items
