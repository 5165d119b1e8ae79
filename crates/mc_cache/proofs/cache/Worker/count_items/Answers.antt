use Rattle.std.proofs.Common.{◌≡◌, ◌<◌, arith, length}
use Rattle.std.proofs.lemmas.List.{length-set}
use Rattle.mc_cache.proofs.Acts.{idle_after}
use Rattle.mc_cache.proofs.ByClass.{all_counted, one_counted, still_untouched}
use Rattle.mc_cache.proofs.Walked.{idle_there}
use Rattle.mc_cache.proofs.Tendings.{still_unsaid}
use Rattle.mc_cache.proofs.cache.Worker.count_items.Goals as goal

pub items_of_shard-requires : goal.items_of_shard-requires
items_of_shard-requires g c =
    let in_range : c.loop-shard.shard < length c.args.cache.now.arenas.items = omega (arith, c.loop-shard-test.true) in
    idle_there c.args.cache.now.arenas.items c.loop-shard.self.hands.items c.loop-shard.shard c.index-arena.result.now c.index_mut-hand.result.now c.loop-shard.invariant.belongs in_range c.index-arena.ensures c.index_mut-hand.ensures.value

pub loop-shard-preserved : goal.loop-shard-preserved
loop-shard-preserved g c =
    let inv = c.loop-shard.invariant in
    let in_range : c.loop-shard.shard < length c.args.cache.now.arenas.items = omega (arith, c.loop-shard-test.true) in
    let near_hand : c.loop-shard.shard < length c.loop-shard.self.hands.items = omega (arith, in_range, inv.belongs.count) in
    record {
      belongs = idle_after c.args.cache.now.arenas.items c.loop-shard.self.hands.items c.loop-shard.shard c.index-arena.result.now c.items_of_shard.new.hand in_range c.index-arena.ensures c.items_of_shard.ensures.idle inv.belongs;
      stores_nothing = still_unsaid c.args.self.now.hands.items c.loop-shard.self.hands.items c.loop-shard.shard c.index_mut-hand.result.now c.items_of_shard.new.hand inv.count near_hand c.index_mut-hand.ensures.value c.items_of_shard.ensures.stores_nothing inv.stores_nothing;
      untouched = still_untouched c.args.self.now.hands.items c.loop-shard.self.hands.items c.loop-shard.shard c.index_mut-hand.result.now c.items_of_shard.new.hand inv.count near_hand c.index_mut-hand.ensures.value c.items_of_shard.ensures.slabs inv.untouched;
      count = omega (arith, inv.count, length-set c.loop-shard.self.hands.items c.loop-shard.shard c.items_of_shard.new.hand);
      done = one_counted c.args.cache.now c.loop-shard.shard c.args.rows.now c.loop-shard.rows c.items_of_shard.new.rows c.args.self.now.hands.items c.loop-shard.self.hands.items c.index-arena.result.now c.index_mut-hand.result.now c.items_of_shard.new.hand in_range inv.belongs.count c.index-arena.ensures c.index_mut-hand.ensures.value
          c.in_ok-items_of_shard.ensures.counts inv.done;
    }

pub returns-clause-counts : goal.returns-clause-counts
returns-clause-counts g c =
    let ends : c.loop-shard.shard ≡ length c.args.cache.now.arenas.items = omega (arith, c.loop-shard-test.false, c.loop-shard.auto.shard-end) in
    all_counted c.args.cache.now c.loop-shard.shard c.args.rows.now c.loop-shard.rows c.args.self.now.hands.items c.loop-shard.self.hands.items ends c.loop-shard.invariant.done

pub returns-in_err-items_of_shard-clause-belongs : goal.returns-in_err-items_of_shard-clause-belongs
returns-in_err-items_of_shard-clause-belongs g c =
    let in_range : c.loop-shard.shard < length c.args.cache.now.arenas.items = omega (arith, c.loop-shard-test.true) in
    idle_after c.args.cache.now.arenas.items c.loop-shard.self.hands.items c.loop-shard.shard c.index-arena.result.now c.items_of_shard.new.hand in_range c.index-arena.ensures c.items_of_shard.ensures.idle c.loop-shard.invariant.belongs

pub returns-in_err-items_of_shard-clause-stores_nothing : goal.returns-in_err-items_of_shard-clause-stores_nothing
returns-in_err-items_of_shard-clause-stores_nothing g c =
    let inv = c.loop-shard.invariant in
    let near_hand : c.loop-shard.shard < length c.loop-shard.self.hands.items = omega (arith, c.loop-shard-test.true, inv.belongs.count) in
    still_unsaid c.args.self.now.hands.items c.loop-shard.self.hands.items c.loop-shard.shard c.index_mut-hand.result.now c.items_of_shard.new.hand inv.count near_hand c.index_mut-hand.ensures.value c.items_of_shard.ensures.stores_nothing inv.stores_nothing

pub returns-in_err-items_of_shard-clause-untouched : goal.returns-in_err-items_of_shard-clause-untouched
returns-in_err-items_of_shard-clause-untouched g c =
    let inv = c.loop-shard.invariant in
    let near_hand : c.loop-shard.shard < length c.loop-shard.self.hands.items = omega (arith, c.loop-shard-test.true, inv.belongs.count) in
    still_untouched c.args.self.now.hands.items c.loop-shard.self.hands.items c.loop-shard.shard c.index_mut-hand.result.now c.items_of_shard.new.hand inv.count near_hand c.index_mut-hand.ensures.value c.items_of_shard.ensures.slabs inv.untouched
