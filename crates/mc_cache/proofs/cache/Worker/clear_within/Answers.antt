use Rattle.std.proofs.Common.{◌≡◌, ◌<◌, ◌++◌, ◌∷◌, ◌∙◌, [], ap, arith, length, refl, subst, sym}
use Rattle.std.specs.Vec.{with_item}
use Rattle.std.proofs.lemmas.List.{length-set}
use Rattle.mc_words.specs.hand.View.{View}
use Rattle.mc_cache.specs.Resting.{ActsWhenRecalled}
use Rattle.mc_cache.specs.declared.cache.Worker.{Worker}
use Rattle.mc_cache.specs.Walking.{ClearsOwnShard, StopsClearingWithin}
use Rattle.mc_shard.specs.declared.clearing.ClearWithinError.{ClearWithinError}
use Rattle.mc_cache.proofs.Rests.{rests_after}
use Rattle.mc_cache.proofs.Walked.{resting_there, lost_each_again, one_walked, stops_behind, walked_cache}
use Rattle.mc_cache.proofs.Tendings.{still_unsaid}
use Rattle.mc_shard.proofs.Walks.{sum_more}
use Rattle.mc_cache.proofs.cache.Worker.clear_within.Goals as goal

pub recall-requires : goal.recall-requires
recall-requires c =
    let in_range : c.loop-shard.shard < length c.args.cache.now.arenas.items = omega (arith, c.loop-shard-test.true) in
    resting_there c.args.cache.now.arenas.items c.loop-shard.self.hands.items c.loop-shard.shard c.index-arena.result.now c.index_mut-hand.result.now c.loop-shard.invariant.rests in_range c.index-arena.ensures c.index_mut-hand.ensures.value

pub loop-shard-preserved : goal.loop-shard-preserved
loop-shard-preserved c =
    let inv = c.loop-shard.invariant in
    let in_range : c.loop-shard.shard < length c.args.cache.now.arenas.items = omega (arith, c.loop-shard-test.true) in
    let near_hand : c.loop-shard.shard < length c.loop-shard.self.hands.items = omega (arith, in_range, inv.rests.count) in
    record {
      rests = rests_after c.args.cache.now.arenas.items c.loop-shard.self.hands.items c.loop-shard.shard c.index-arena.result.now c.clear_within.new.hand in_range c.index-arena.ensures c.clear_within.ensures.idle inv.rests;
      stores_nothing = still_unsaid c.args.self.now.hands.items c.loop-shard.self.hands.items c.loop-shard.shard c.index_mut-hand.result.now c.clear_within.new.hand inv.count near_hand c.index_mut-hand.ensures.value (c.clear_within.ensures.stores_nothing ∙ ap (λ (v : View). v.row.knows.stored) c.recall.ensures.same) inv.stores_nothing;
      count = omega (arith, inv.count, length-set c.loop-shard.self.hands.items c.loop-shard.shard c.clear_within.new.hand);
      done = (
        inv.done.0 ++ c.in-Ok.here ∷ [],
        one_walked (λ count. ActsWhenRecalled (ClearsOwnShard count)) c.args.cache.now.arenas.items c.loop-shard.shard c.args.self.now.hands.items c.loop-shard.self.hands.items inv.done.0 c.in-Ok.here c.index-arena.result.now c.index_mut-hand.result.now c.clear_within.new.hand in_range near_hand c.index-arena.ensures c.index_mut-hand.ensures.value
            (record { again = c.recall.new.hand; view_is = c.recall.ensures.same; number_is = c.recall.ensures.number; does = record { clears = c.in-Ok.ensures.clears; empty = c.in-Ok.ensures.empty; gone = c.in-Ok.ensures.gone; slabs = c.clear_within.ensures.slabs } }) inv.done.1,
        sum_more inv.done.0 c.loop-shard.count c.in-Ok.here c.saturating_add-count.result inv.done.2 c.saturating_add-count.ensures,
      );
    }

pub returns-clause-clears : goal.returns-clause-clears
returns-clause-clears c =
    let inv = c.loop-shard.invariant in
    let ends : c.loop-shard.shard ≡ length c.args.cache.now.arenas.items = omega (arith, c.loop-shard-test.false, c.loop-shard.auto.shard-end) in
    walked_cache (λ count. ActsWhenRecalled (ClearsOwnShard count)) c.args.cache.now.arenas.items c.args.self.now.hands.items c.loop-shard.self.hands.items c.loop-shard.shard c.loop-shard.count inv.done.0 ends inv.done.1 inv.done.2

pub returns-clause-gone : goal.returns-clause-gone
returns-clause-gone c = lost_each_again c.args.cache.now c.loop-shard.count c.args.self.now c.loop-shard.self (returns-clause-clears c)

pub returns-in-Err-clause-rests : goal.returns-in-Err-clause-rests
returns-in-Err-clause-rests c =
    let in_range : c.loop-shard.shard < length c.args.cache.now.arenas.items = omega (arith, c.loop-shard-test.true) in
    rests_after c.args.cache.now.arenas.items c.loop-shard.self.hands.items c.loop-shard.shard c.index-arena.result.now c.clear_within.new.hand in_range c.index-arena.ensures c.clear_within.ensures.idle c.loop-shard.invariant.rests

pub returns-in-Err-clause-stores_nothing : goal.returns-in-Err-clause-stores_nothing
returns-in-Err-clause-stores_nothing c =
    let inv = c.loop-shard.invariant in
    let near_hand : c.loop-shard.shard < length c.loop-shard.self.hands.items = omega (arith, c.loop-shard-test.true, inv.rests.count) in
    still_unsaid c.args.self.now.hands.items c.loop-shard.self.hands.items c.loop-shard.shard c.index_mut-hand.result.now c.clear_within.new.hand inv.count near_hand c.index_mut-hand.ensures.value (c.clear_within.ensures.stores_nothing ∙ ap (λ (v : View). v.row.knows.stored) c.recall.ensures.same) inv.stores_nothing

pub returns-in-Err-clause-stops : goal.returns-in-Err-clause-stops
returns-in-Err-clause-stops c =
    let inv = c.loop-shard.invariant in
    let in_range : c.loop-shard.shard < length c.args.cache.now.arenas.items = omega (arith, c.loop-shard-test.true) in
    let near_hand : c.loop-shard.shard < length c.loop-shard.self.hands.items = omega (arith, in_range, inv.rests.count) in
    let after : Worker = record { hands = with_item c.loop-shard.self.hands c.loop-shard.shard c.clear_within.new.hand; words = c.loop-shard.self.words } in
    subst (λ (e : ClearWithinError). StopsClearingWithin c.args.cache.now c.args.tries e c.args.self.now after) (sym c.stopped_behind.ensures)
    (stops_behind c.args.cache.now c.args.tries c.loop-shard.count c.loop-shard.shard inv.done.0 c.in-Err.error c.args.self.now c.loop-shard.self after c.index-arena.result.now c.index_mut-hand.result.now c.recall.new.hand c.clear_within.new.hand in_range near_hand c.index-arena.ensures c.index_mut-hand.ensures.value c.recall.ensures.same c.recall.ensures.number inv.done.1 inv.done.2 refl c.in-Err.ensures.stops)
