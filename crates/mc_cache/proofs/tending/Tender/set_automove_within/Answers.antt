use Rattle.std.proofs.Common.{◌<◌, ◌∙◌, ap, arith, length}
use Rattle.std.proofs.lemmas.List.{length-set}
use Rattle.mc_words.specs.hand.View.{View}
use Rattle.mc_mover.specs.Reassigning.{SetsMode}
use Rattle.mc_shard.specs.Hands.{IsIdleHandOf}
use Rattle.mc_cache.specs.Stats.{SetsShardsMode}
use Rattle.mc_cache.specs.Tending.{tender_hands}
use Rattle.mc_cache.specs.WindowsWithin.{MissesEachTime}
use Rattle.mc_cache.proofs.EachShard.{at_last, first_before, one_does}
use Rattle.mc_cache.proofs.Opened.{stays_idle}
use Rattle.mc_cache.proofs.Recalls.{acts_before, misses_before}
use Rattle.mc_cache.proofs.Rests.{rests_after}
use Rattle.mc_cache.proofs.Tendings.{still_behind, still_unsaid}
use Rattle.mc_cache.proofs.tending.Tender.set_automove_within.Goals as goal

pub returns-in-Err-clause-rests : goal.returns-in-Err-clause-rests
returns-in-Err-clause-rests c =
    let tender = c.loop-shard.invariant.rests in
    let in_range : c.loop-shard.shard < length c.args.cache.now.arenas.items = omega (arith, c.loop-shard-test.true) in
    let now : IsIdleHandOf c.index-arena.result.now c.set_mode_within.new.hand = stays_idle c.index-arena.result.now c.recall.new.hand c.set_mode_within.new.hand c.recall.ensures.idle c.set_mode_within.ensures.hand.arena c.set_mode_within.ensures.hand.ready c.set_mode_within.ensures.holdings.same in
    record {
      hands = rests_after c.args.cache.now.arenas.items c.loop-shard.self.worker.hands.items c.loop-shard.shard c.index-arena.result.now c.set_mode_within.new.hand in_range c.index-arena.ensures now tender.hands;
      deciders = tender.deciders;
    }

pub returns-in-Err-clause-stores_nothing : goal.returns-in-Err-clause-stores_nothing
returns-in-Err-clause-stores_nothing c =
    let inv = c.loop-shard.invariant in
    let near_hand : c.loop-shard.shard < length c.loop-shard.self.worker.hands.items = omega (arith, c.loop-shard-test.true, inv.rests.hands.count) in
    still_unsaid (tender_hands c.args.self.now) c.loop-shard.self.worker.hands.items c.loop-shard.shard c.index_mut-hand.result.now c.set_mode_within.new.hand inv.count near_hand c.index_mut-hand.ensures.value (c.set_mode_within.ensures.stores_nothing ∙ ap (λ (v : View). v.row.knows.stored) c.recall.ensures.same) inv.stores_nothing

pub returns-in-Err-clause-held : goal.returns-in-Err-clause-held
returns-in-Err-clause-held c =
    let inv = c.loop-shard.invariant in
    let near_hand : c.loop-shard.shard < length c.loop-shard.self.worker.hands.items = omega (arith, c.loop-shard-test.true, inv.rests.hands.count) in
    record {
      count = c.loop-shard.shard;
      in_range = omega (arith, c.loop-shard-test.true);
      sets = first_before (SetsShardsMode c.args.mode) c.loop-shard.shard (tender_hands c.args.self.now) c.loop-shard.self.worker.hands.items c.set_mode_within.new.hand inv.done;
      misses = at_last (MissesEachTime c.args.tries) c.loop-shard.shard (tender_hands c.args.self.now) c.loop-shard.self.worker.hands.items c.index_mut-hand.result.now c.set_mode_within.new.hand near_hand c.index_mut-hand.ensures.value inv.done.left
          (misses_before c.index_mut-hand.result.now c.recall.new.hand c.recall.ensures.same c.recall.ensures.number c.args.tries c.set_mode_within.new.hand c.in-Err.ensures.missed);
      left = still_behind c.loop-shard.shard (tender_hands c.args.self.now) c.loop-shard.self.worker.hands.items c.set_mode_within.new.hand inv.done.left;
    }

pub loop-shard-preserved : goal.loop-shard-preserved
loop-shard-preserved c =
    let inv = c.loop-shard.invariant in
    let in_range : c.loop-shard.shard < length c.args.cache.now.arenas.items = omega (arith, c.loop-shard-test.true) in
    let near_hand : c.loop-shard.shard < length c.loop-shard.self.worker.hands.items = omega (arith, in_range, inv.rests.hands.count) in
    let now : IsIdleHandOf c.index-arena.result.now c.set_mode_within.new.hand = stays_idle c.index-arena.result.now c.recall.new.hand c.set_mode_within.new.hand c.recall.ensures.idle c.set_mode_within.ensures.hand.arena c.set_mode_within.ensures.hand.ready c.set_mode_within.ensures.holdings.same in
    let sets : SetsShardsMode c.args.mode c.index_mut-hand.result.now c.set_mode_within.new.hand = acts_before c.index_mut-hand.result.now c.recall.new.hand c.recall.ensures.same c.recall.ensures.number (λ number. SetsMode number c.args.mode) c.set_mode_within.new.hand c.in_default.ensures.sets in
    record {
      rests = record {
        hands = rests_after c.args.cache.now.arenas.items c.loop-shard.self.worker.hands.items c.loop-shard.shard c.index-arena.result.now c.set_mode_within.new.hand in_range c.index-arena.ensures now inv.rests.hands;
        deciders = inv.rests.deciders;
      };
      stores_nothing = still_unsaid (tender_hands c.args.self.now) c.loop-shard.self.worker.hands.items c.loop-shard.shard c.index_mut-hand.result.now c.set_mode_within.new.hand inv.count near_hand c.index_mut-hand.ensures.value (c.set_mode_within.ensures.stores_nothing ∙ ap (λ (v : View). v.row.knows.stored) c.recall.ensures.same) inv.stores_nothing;
      count = omega (arith, inv.count, length-set c.loop-shard.self.worker.hands.items c.loop-shard.shard c.set_mode_within.new.hand);
      deciders = inv.deciders;
      done = one_does (SetsShardsMode c.args.mode) c.loop-shard.shard (tender_hands c.args.self.now) c.loop-shard.self.worker.hands.items c.index_mut-hand.result.now c.set_mode_within.new.hand near_hand c.index_mut-hand.ensures.value sets inv.done;
    }
