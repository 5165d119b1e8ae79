use Rattle.std.proofs.Common.{◌<◌, ◌++◌, ◌∷◌, [], arith, length}
use Rattle.std.proofs.lemmas.List.{length-set}
use Rattle.mc_cache.specs.Tending.{tender_hands}
use Rattle.mc_cache.proofs.Acts.{idle_after, on_refusal}
use Rattle.mc_cache.proofs.EachShard.{one_surveyed, surveyed_before}
use Rattle.mc_cache.proofs.Tendings.{still_behind, still_unsaid}
use Rattle.mc_cache.proofs.tending.Tender.stats.Goals as goal

pub returns-in_err-count_shard-clause-belongs : goal.returns-in_err-count_shard-clause-belongs
returns-in_err-count_shard-clause-belongs g c =
    let in_range : c.loop-shard.shard < length c.args.cache.now.arenas.items = omega (arith, c.loop-shard-test.true) in
    let tender = c.loop-shard.invariant.tender in record {
      hands = idle_after c.args.cache.now.arenas.items c.loop-shard.self.worker.hands.items c.loop-shard.shard c.index-arena.result.now c.count_shard.new.hand in_range c.index-arena.ensures c.count_shard.ensures.idle tender.hands;
      deciders = tender.deciders;
    }

pub returns-in_err-count_shard-clause-stores_nothing : goal.returns-in_err-count_shard-clause-stores_nothing
returns-in_err-count_shard-clause-stores_nothing g c =
    let in_range : c.loop-shard.shard < length c.loop-shard.self.worker.hands.items = omega (arith, c.loop-shard-test.true, c.loop-shard.invariant.tender.hands.count) in
    still_unsaid (tender_hands c.args.self.now) c.loop-shard.self.worker.hands.items c.loop-shard.shard c.index_mut-hand.result.now c.count_shard.new.hand c.loop-shard.invariant.count in_range c.index_mut-hand.ensures.value c.count_shard.ensures.stores_nothing c.loop-shard.invariant.stores_nothing

pub loop-shard-preserved : goal.loop-shard-preserved
loop-shard-preserved g c =
    let inv = c.loop-shard.invariant in
    let counts = c.in_ok-count_shard.ensures.counts in
    let in_range : c.loop-shard.shard < length c.args.cache.now.arenas.items = omega (arith, c.loop-shard-test.true) in
    let near_hand : c.loop-shard.shard < length c.loop-shard.self.worker.hands.items = omega (arith, in_range, inv.tender.hands.count) in
    record {
      tender = record {
        hands = idle_after c.args.cache.now.arenas.items c.loop-shard.self.worker.hands.items c.loop-shard.shard c.index-arena.result.now c.count_shard.new.hand in_range c.index-arena.ensures c.count_shard.ensures.idle inv.tender.hands;
        deciders = inv.tender.deciders;
      };
      stores_nothing = still_unsaid (tender_hands c.args.self.now) c.loop-shard.self.worker.hands.items c.loop-shard.shard c.index_mut-hand.result.now c.count_shard.new.hand inv.count near_hand c.index_mut-hand.ensures.value c.count_shard.ensures.stores_nothing inv.stores_nothing;
      count = omega (arith, inv.count, length-set c.loop-shard.self.worker.hands.items c.loop-shard.shard c.count_shard.new.hand);
      deciders = inv.deciders;
      done = (
        inv.done.0 ++ counts.survey ∷ [],
        one_surveyed c.loop-shard.shard (tender_hands c.args.self.now) c.loop-shard.self.worker.hands.items inv.done.0 counts.survey c.index_mut-hand.result.now c.count_shard.new.hand near_hand c.index_mut-hand.ensures.value counts.surveys inv.done.1,
        counts.adds inv.done.0 inv.done.2,
      );
    }

pub returns-in_err-count_shard-clause-refused : goal.returns-in_err-count_shard-clause-refused
returns-in_err-count_shard-clause-refused g c =
    let done = c.loop-shard.invariant.done in on_refusal c.from_residual.result (record {
      count = c.loop-shard.shard;
      in_range = omega (arith, c.loop-shard-test.true);
      surveys = done.0;
      surveyed = surveyed_before c.loop-shard.shard (tender_hands c.args.self.now) c.loop-shard.self.worker.hands.items done.0 c.count_shard.new.hand done.1;
      left = still_behind c.loop-shard.shard (tender_hands c.args.self.now) c.loop-shard.self.worker.hands.items c.count_shard.new.hand done.1.left;
    })
