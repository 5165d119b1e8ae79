use Rattle.std.proofs.Common.{◌++◌, ◌∷◌, ◌∙◌, [], ap, arith, sym}
use Rattle.mc_shard.specs.Hands.{IsUnusedHandOf}
use Rattle.mc_cache.specs.declared.cache.Worker.{Worker}
use Rattle.mc_cache.proofs.Dealt.{deal_all, deal_more, deal_none}
use Rattle.mc_cache.proofs.opening.deal.Goals as goal

pub loop-worker-init : goal.loop-worker-init
loop-worker-init c = deal_none IsUnusedHandOf (λ (worker : Worker). worker.hands.items) c.args.arenas.now c.args.workers.now c.args.hands.now.items c.requires.workers c.requires.own c.requires.enough

pub loop-worker-preserved : goal.loop-worker-preserved
loop-worker-preserved c =
    deal_more IsUnusedHandOf (λ (worker : Worker). worker.hands.items) c.args.arenas.now c.loop-worker.workers c.loop-worker.worker-index c.loop-worker.hands.items c.pop.new.self.items c.in-Some.hand c.worker-item.result _ (omega arith) (omega arith) c.worker-item.is
    c.in-Some.ensures.items (c.in_ok-push.ensures.items ∙ ap (λ (worker : Worker). worker.hands.items ++ c.in-Some.hand ∷ []) (sym c.worker-item.is)) c.loop-worker.invariant

pub returns : goal.returns
returns c = deal_all IsUnusedHandOf (λ (worker : Worker). worker.hands.items) c.args.arenas.now c.loop-worker.workers c.loop-worker.worker-index c.loop-worker.hands.items (omega arith) c.loop-worker.invariant
