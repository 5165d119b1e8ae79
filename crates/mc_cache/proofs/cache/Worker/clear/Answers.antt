use Rattle.std.proofs.Common.{◌≡◌, ◌<◌, ◌++◌, ◌∷◌, [], arith, length}
use Rattle.std.proofs.lemmas.List.{length-set}
use Rattle.mc_words.specs.hand.Arenas.{setup_of}
use Rattle.mc_cache.specs.Walking.{ClearsOwnShard}
use Rattle.mc_shard.specs.Walking.{StopsClearingShard}
use Rattle.mc_cache.proofs.Acts.{idle_after, on_refusal}
use Rattle.mc_cache.proofs.Walked.{idle_there, lost_each, one_walked, stopped_walk, walked_cache}
use Rattle.mc_cache.proofs.Tendings.{still_unsaid}
use Rattle.mc_shard.proofs.Walks.{sum_more}
use Rattle.mc_cache.proofs.cache.Worker.clear.Goals as goal

pub clear-requires : goal.clear-requires
clear-requires g c =
    let in_range : c.loop-shard.shard < length c.args.cache.now.arenas.items = omega (arith, c.loop-shard-test.true) in
    idle_there c.args.cache.now.arenas.items c.loop-shard.self.hands.items c.loop-shard.shard c.index-arena.result.now c.index_mut-hand.result.now c.loop-shard.invariant.belongs in_range c.index-arena.ensures c.index_mut-hand.ensures.value

pub loop-shard-preserved : goal.loop-shard-preserved
loop-shard-preserved g c =
    let inv = c.loop-shard.invariant in
    let in_range : c.loop-shard.shard < length c.args.cache.now.arenas.items = omega (arith, c.loop-shard-test.true) in
    let near_hand : c.loop-shard.shard < length c.loop-shard.self.hands.items = omega (arith, in_range, inv.belongs.count) in
    record {
      belongs = idle_after c.args.cache.now.arenas.items c.loop-shard.self.hands.items c.loop-shard.shard c.index-arena.result.now c.clear.new.hand in_range c.index-arena.ensures c.clear.ensures.idle inv.belongs;
      stores_nothing = still_unsaid c.args.self.now.hands.items c.loop-shard.self.hands.items c.loop-shard.shard c.index_mut-hand.result.now c.clear.new.hand inv.count near_hand c.index_mut-hand.ensures.value c.clear.ensures.stores_nothing inv.stores_nothing;
      count = omega (arith, inv.count, length-set c.loop-shard.self.hands.items c.loop-shard.shard c.clear.new.hand);
      done = (
        inv.done.0 ++ c.in_ok-here.here ∷ [],
        one_walked ClearsOwnShard c.args.cache.now.arenas.items c.loop-shard.shard c.args.self.now.hands.items c.loop-shard.self.hands.items inv.done.0 c.in_ok-here.here c.index-arena.result.now c.index_mut-hand.result.now c.clear.new.hand in_range near_hand c.index-arena.ensures c.index_mut-hand.ensures.value
            (record { clears = c.in_ok-here.ensures.clears; empty = c.in_ok-here.ensures.empty; gone = c.in_ok-here.ensures.gone; slabs = c.clear.ensures.slabs }) inv.done.1,
        sum_more inv.done.0 c.loop-shard.count c.in_ok-here.here c.saturating_add-count.result inv.done.2 c.saturating_add-count.ensures,
      );
    }

pub returns-clause-clears : goal.returns-clause-clears
returns-clause-clears g c =
    let inv = c.loop-shard.invariant in
    let ends : c.loop-shard.shard ≡ length c.args.cache.now.arenas.items = omega (arith, c.loop-shard-test.false, c.loop-shard.auto.shard-end) in
    walked_cache ClearsOwnShard c.args.cache.now.arenas.items c.args.self.now.hands.items c.loop-shard.self.hands.items c.loop-shard.shard c.loop-shard.count inv.done.0 ends inv.done.1 inv.done.2

pub returns-clause-gone : goal.returns-clause-gone
returns-clause-gone g c = lost_each c.args.cache.now c.loop-shard.count c.args.self.now c.loop-shard.self (returns-clause-clears g c)

pub returns-in_err-here-clause-belongs : goal.returns-in_err-here-clause-belongs
returns-in_err-here-clause-belongs g c =
    let in_range : c.loop-shard.shard < length c.args.cache.now.arenas.items = omega (arith, c.loop-shard-test.true) in
    idle_after c.args.cache.now.arenas.items c.loop-shard.self.hands.items c.loop-shard.shard c.index-arena.result.now c.clear.new.hand in_range c.index-arena.ensures c.clear.ensures.idle c.loop-shard.invariant.belongs

pub returns-in_err-here-clause-stores_nothing : goal.returns-in_err-here-clause-stores_nothing
returns-in_err-here-clause-stores_nothing g c =
    let inv = c.loop-shard.invariant in
    let near_hand : c.loop-shard.shard < length c.loop-shard.self.hands.items = omega (arith, c.loop-shard-test.true, inv.belongs.count) in
    still_unsaid c.args.self.now.hands.items c.loop-shard.self.hands.items c.loop-shard.shard c.index_mut-hand.result.now c.clear.new.hand inv.count near_hand c.index_mut-hand.ensures.value c.clear.ensures.stores_nothing inv.stores_nothing

pub returns-in_err-here-clause-refused : goal.returns-in_err-here-clause-refused
returns-in_err-here-clause-refused g c =
    let inv = c.loop-shard.invariant in
    let in_range : c.loop-shard.shard < length c.args.cache.now.arenas.items = omega (arith, c.loop-shard-test.true) in
    let near_hand : c.loop-shard.shard < length c.loop-shard.self.hands.items = omega (arith, in_range, inv.belongs.count) in
    on_refusal c.from_residual.result (stopped_walk ClearsOwnShard (λ arena. StopsClearingShard (setup_of arena)) c.args.cache.now.arenas.items c.args.self.now.hands.items c.loop-shard.self.hands.items c.loop-shard.shard inv.done.0 c.index-arena.result.now c.index_mut-hand.result.now c.clear.new.hand in_range near_hand c.index-arena.ensures c.index_mut-hand.ensures.value (c.in_err-here.ensures.stops) inv.done.1)
