use Rattle.std.proofs.Common.{◌<◌, ◌∙◌, arith, length, refl}
use Rattle.std.proofs.lemmas.List.{length-set}
use Rattle.mc_cache.specs.Tending.{deciders_of, tender_hands}
use Rattle.mc_cache.specs.TendingWithin.{nothing_within, with_shard_window}
use Rattle.mc_cache.specs.WindowsWithin.{TendsShardWithin}
use Rattle.mc_cache.proofs.Acts.{on_refusal}
use Rattle.mc_cache.proofs.Rests.{rests_after}
use Rattle.mc_cache.proofs.Tendings.{none_said, none_tended, one_tended, still_behind, still_unsaid, tended_before}
use Rattle.mc_cache.proofs.tending.Tender.tend_within.Goals as goal

pub loop-shard-init : goal.loop-shard-init
loop-shard-init c = record {
  rests = c.requires;
  stores_nothing = none_said (tender_hands c.args.self.now);
  count = refl;
  done = none_tended (TendsShardWithin c.args.tries) with_shard_window nothing_within (tender_hands c.args.self.now) (deciders_of c.args.self.now) c.new-done.result c.new-done.ensures.none;
}

pub returns-in_err-window-clause-rests : goal.returns-in_err-window-clause-rests
returns-in_err-window-clause-rests c =
    let in_range : c.loop-shard.shard < length c.args.cache.now.arenas.items = omega (arith, c.loop-shard-test.true) in
    let tender = c.loop-shard.invariant.rests in record {
      hands = rests_after c.args.cache.now.arenas.items c.loop-shard.self.worker.hands.items c.loop-shard.shard c.index-arena.result.now c.tend_shard_within.new.hand in_range c.index-arena.ensures c.tend_shard_within.ensures.idle tender.hands;
      deciders = length-set c.loop-shard.self.deciders.items c.loop-shard.shard c.tend_shard_within.new.decider ∙ tender.deciders;
    }

pub returns-in_err-window-clause-stores_nothing : goal.returns-in_err-window-clause-stores_nothing
returns-in_err-window-clause-stores_nothing c =
    let in_range : c.loop-shard.shard < length c.loop-shard.self.worker.hands.items = omega (arith, c.loop-shard-test.true, c.loop-shard.invariant.rests.hands.count) in
    still_unsaid (tender_hands c.args.self.now) c.loop-shard.self.worker.hands.items c.loop-shard.shard c.index_mut-hand.result.now c.tend_shard_within.new.hand c.loop-shard.invariant.count in_range c.index_mut-hand.ensures.value c.tend_shard_within.ensures.stores_nothing c.loop-shard.invariant.stores_nothing

pub loop-shard-preserved : goal.loop-shard-preserved
loop-shard-preserved c =
    let inv = c.loop-shard.invariant in
    let in_range : c.loop-shard.shard < length c.args.cache.now.arenas.items = omega (arith, c.loop-shard-test.true) in
    let near_hand : c.loop-shard.shard < length c.loop-shard.self.worker.hands.items = omega (arith, in_range, inv.rests.hands.count) in
    let near_decider : c.loop-shard.shard < length c.loop-shard.self.deciders.items = omega (arith, in_range, inv.rests.deciders) in
    record {
      rests = record {
        hands = rests_after c.args.cache.now.arenas.items c.loop-shard.self.worker.hands.items c.loop-shard.shard c.index-arena.result.now c.tend_shard_within.new.hand in_range c.index-arena.ensures c.tend_shard_within.ensures.idle inv.rests.hands;
        deciders = length-set c.loop-shard.self.deciders.items c.loop-shard.shard c.tend_shard_within.new.decider ∙ inv.rests.deciders;
      };
      stores_nothing = still_unsaid (tender_hands c.args.self.now) c.loop-shard.self.worker.hands.items c.loop-shard.shard c.index_mut-hand.result.now c.tend_shard_within.new.hand inv.count near_hand c.index_mut-hand.ensures.value c.tend_shard_within.ensures.stores_nothing inv.stores_nothing;
      count = omega (arith, inv.count, length-set c.loop-shard.self.worker.hands.items c.loop-shard.shard c.tend_shard_within.new.hand);
      done = one_tended (TendsShardWithin c.args.tries) with_shard_window nothing_within c.loop-shard.shard (tender_hands c.args.self.now) (deciders_of c.args.self.now) c.loop-shard.self.worker.hands.items c.loop-shard.self.deciders.items c.loop-shard.done c.add.new.self c.in_ok-window.window c.index_mut-hand.result.now c.tend_shard_within.new.hand c.index_mut-decider.result.now c.tend_shard_within.new.decider
          near_hand near_decider c.index_mut-hand.ensures.value c.index_mut-decider.ensures.value c.in_ok-window.ensures.tends c.add.ensures.added inv.done;
    }

pub returns-in_err-window-clause-refused : goal.returns-in_err-window-clause-refused
returns-in_err-window-clause-refused c =
    let done = c.loop-shard.invariant.done in on_refusal c.from_residual.result (record {
      count = c.loop-shard.shard;
      in_range = omega (arith, c.loop-shard-test.true);
      windows = done.shares;
      tends = tended_before (TendsShardWithin c.args.tries) with_shard_window nothing_within c.loop-shard.shard (tender_hands c.args.self.now) (deciders_of c.args.self.now) c.loop-shard.self.worker.hands.items c.loop-shard.self.deciders.items c.loop-shard.done c.tend_shard_within.new.hand c.tend_shard_within.new.decider done;
      hands_left = still_behind c.loop-shard.shard (tender_hands c.args.self.now) c.loop-shard.self.worker.hands.items c.tend_shard_within.new.hand done.hands_left;
      deciders_left = still_behind c.loop-shard.shard (deciders_of c.args.self.now) c.loop-shard.self.deciders.items c.tend_shard_within.new.decider done.deciders_left;
    })
