use Rattle.std.proofs.Common.{◌<◌, arith, length}
use Rattle.std.proofs.lemmas.List.{length-set}
use Rattle.mc_shard.specs.Hands.{IsIdleHandOf}
use Rattle.mc_cache.specs.Stats.{SetsShardsMode}
use Rattle.mc_cache.specs.Tending.{tender_hands}
use Rattle.mc_cache.proofs.Acts.{idle_after, idle_at}
use Rattle.mc_cache.proofs.EachShard.{one_does}
use Rattle.mc_cache.proofs.Opened.{stays_idle}
use Rattle.mc_cache.proofs.Tendings.{still_unsaid}
use Rattle.mc_cache.proofs.tending.Tender.set_automove.Goals as goal

pub loop-shard-preserved : goal.loop-shard-preserved
loop-shard-preserved g c =
    let inv = c.loop-shard.invariant in
    let in_range : c.loop-shard.shard < length c.args.cache.now.arenas.items = omega (arith, c.loop-shard-test.true) in
    let near_hand : c.loop-shard.shard < length c.loop-shard.self.worker.hands.items = omega (arith, in_range, inv.tender.hands.count) in
    let was = idle_at c.args.cache.now.arenas.items c.loop-shard.self.worker.hands.items c.loop-shard.shard c.index-arena.result.now c.index_mut-hand.result.now inv.tender.hands in_range in
    let idle : IsIdleHandOf c.index-arena.result.now c.index_mut-hand.result.now = rw (c.index-arena.ensures, c.index_mut-hand.ensures.value) was in
    let now : IsIdleHandOf c.index-arena.result.now c.set_mode.new.hand = stays_idle c.index-arena.result.now c.index_mut-hand.result.now c.set_mode.new.hand idle c.set_mode.ensures.hand.arena c.set_mode.ensures.hand.ready c.set_mode.ensures.holdings.same in
    record {
      tender = record {
        hands = idle_after c.args.cache.now.arenas.items c.loop-shard.self.worker.hands.items c.loop-shard.shard c.index-arena.result.now c.set_mode.new.hand in_range c.index-arena.ensures now inv.tender.hands;
        deciders = inv.tender.deciders;
      };
      stores_nothing = still_unsaid (tender_hands c.args.self.now) c.loop-shard.self.worker.hands.items c.loop-shard.shard c.index_mut-hand.result.now c.set_mode.new.hand inv.count near_hand c.index_mut-hand.ensures.value c.set_mode.ensures.stores_nothing inv.stores_nothing;
      count = omega (arith, inv.count, length-set c.loop-shard.self.worker.hands.items c.loop-shard.shard c.set_mode.new.hand);
      deciders = inv.deciders;
      done = one_does (SetsShardsMode c.args.mode) c.loop-shard.shard (tender_hands c.args.self.now) c.loop-shard.self.worker.hands.items c.index_mut-hand.result.now c.set_mode.new.hand near_hand c.index_mut-hand.ensures.value c.set_mode.ensures.sets inv.done;
    }
