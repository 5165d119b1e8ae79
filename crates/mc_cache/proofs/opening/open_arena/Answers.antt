use Rattle.std.proofs.Common.{◌<◌, length, rules, subst, sym}
use Rattle.mc_words.specs.hand.Hands.{IsNewHand}
use Rattle.mc_shard.specs.Hands.{IsUnusedHandOf}
use Rattle.mc_cache.proofs.Dealt.{each_set}
use Rattle.mc_cache.proofs.Opened.{first_is_new, new_hands_are_unused, stays_unused}
use Rattle.mc_cache.proofs.opening.open_arena.Goals as goal

pub returns-in-Ok-clause-hands : goal.returns-in-Ok-clause-hands
returns-in-Ok-clause-hands g c =
    let all = new_hands_are_unused c.in-Ok.arena c.in-Ok.hands.items c.in-Ok.ensures.hands in
    let some : 0 < length c.in-Ok.hands.items = search rules in
    let first : IsUnusedHandOf c.in-Ok.arena c.index_mut.result.now = subst (IsUnusedHandOf c.in-Ok.arena) (sym c.index_mut.ensures.value) (all 0 c.index_mut.result.now some) in
    each_set (IsUnusedHandOf c.in-Ok.arena) c.in-Ok.hands.items 0 c.forget.new.hand (stays_unused c.in-Ok.arena c.index_mut.result.now c.forget.new.hand first c.forget.ensures.hand.arena c.forget.ensures.hand.ready c.forget.ensures.holdings.same c.forget.ensures.stores_nothing c.forget.ensures.records_nothing) all

pub returns-in-Ok-clause-history : goal.returns-in-Ok-clause-history
returns-in-Ok-clause-history g c =
    let some : 0 < length c.in-Ok.hands.items = search rules in
    record {
      hand = c.index_mut.result.now;
      new = subst (IsNewHand c.in-Ok.arena 0) (sym c.index_mut.ensures.value) (first_is_new c.in-Ok.arena c.in-Ok.hands.items c.index_mut.result.now c.in-Ok.ensures.hands some);
      after = c.forget.new.hand;
      forgets = c.forget.ensures.forgets;
    }
