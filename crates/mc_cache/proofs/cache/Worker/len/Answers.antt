use Rattle.std.proofs.Common.{◌≡◌, ◌<◌, ◌++◌, ◌∷◌, [], arith, length}
use Rattle.std.proofs.lemmas.List.{length-set}
use Rattle.mc_cache.specs.Walking.{CountsOwnShard}
use Rattle.mc_cache.proofs.Acts.{idle_after}
use Rattle.mc_cache.proofs.Walked.{idle_there, one_walked, walked_cache}
use Rattle.mc_cache.proofs.Tendings.{still_unsaid}
use Rattle.mc_shard.proofs.Walks.{sum_more}
use Rattle.mc_cache.proofs.cache.Worker.len.Goals as goal

pub count-here-requires : goal.count-here-requires
count-here-requires g c =
    let in_range : c.loop-shard.shard < length c.args.cache.now.arenas.items = omega (arith, c.loop-shard-test.true) in
    idle_there c.args.cache.now.arenas.items c.loop-shard.self.hands.items c.loop-shard.shard c.index-arena.result.now c.index_mut-hand.result.now c.loop-shard.invariant.belongs in_range c.index-arena.ensures c.index_mut-hand.ensures.value

pub loop-shard-preserved : goal.loop-shard-preserved
loop-shard-preserved g c =
    let inv = c.loop-shard.invariant in
    let in_range : c.loop-shard.shard < length c.args.cache.now.arenas.items = omega (arith, c.loop-shard-test.true) in
    let near_hand : c.loop-shard.shard < length c.loop-shard.self.hands.items = omega (arith, in_range, inv.belongs.count) in
    record {
      belongs = idle_after c.args.cache.now.arenas.items c.loop-shard.self.hands.items c.loop-shard.shard c.index-arena.result.now c.count-here.new.hand in_range c.index-arena.ensures c.count-here.ensures.idle inv.belongs;
      stores_nothing = still_unsaid c.args.self.now.hands.items c.loop-shard.self.hands.items c.loop-shard.shard c.index_mut-hand.result.now c.count-here.new.hand inv.count near_hand c.index_mut-hand.ensures.value c.count-here.ensures.stores_nothing inv.stores_nothing;
      count = omega (arith, inv.count, length-set c.loop-shard.self.hands.items c.loop-shard.shard c.count-here.new.hand);
      done = (
        inv.done.0 ++ c.count-here.result ∷ [],
        one_walked CountsOwnShard c.args.cache.now.arenas.items c.loop-shard.shard c.args.self.now.hands.items c.loop-shard.self.hands.items inv.done.0 c.count-here.result c.index-arena.result.now c.index_mut-hand.result.now c.count-here.new.hand in_range near_hand c.index-arena.ensures c.index_mut-hand.ensures.value
            (record { counts = c.count-here.ensures.counts; calls = c.count-here.ensures.calls; slabs = c.count-here.ensures.slabs }) inv.done.1,
        sum_more inv.done.0 c.loop-shard.count c.count-here.result c.saturating_add-count.result inv.done.2 c.saturating_add-count.ensures,
      );
    }

pub returns-clause-counts : goal.returns-clause-counts
returns-clause-counts g c =
    let inv = c.loop-shard.invariant in
    let ends : c.loop-shard.shard ≡ length c.args.cache.now.arenas.items = omega (arith, c.loop-shard-test.false, c.loop-shard.auto.shard-end) in
    walked_cache CountsOwnShard c.args.cache.now.arenas.items c.args.self.now.hands.items c.loop-shard.self.hands.items c.loop-shard.shard c.loop-shard.count inv.done.0 ends inv.done.1 inv.done.2
