use Rattle.std.proofs.Common.{◌<◌, length, rules, subst, sym}
use Rattle.mc_words.specs.hand.Hands.{IsNewHand}
use Rattle.mc_shard.specs.Hands.{IsUnusedHandOf}
use Rattle.mc_cache.proofs.Dealt.{each_set}
use Rattle.mc_cache.proofs.Opened.{first_is_new, new_hands_are_unused, stays_unused}
use Rattle.mc_cache.proofs.opening_within.open_arena_within.Goals as goal

pub returns-in-Ok-forget_within-clause-hands : goal.returns-in-Ok-forget_within-clause-hands
returns-in-Ok-forget_within-clause-hands c =
    let all = new_hands_are_unused c.in-Ok.made.0 c.in-Ok.made.1.items c.in-Ok.ensures.hands in
    let some : 0 < length c.in-Ok.made.1.items = search rules in
    let first : IsUnusedHandOf c.in-Ok.made.0 c.index_mut.result.now = subst (IsUnusedHandOf c.in-Ok.made.0) (sym c.index_mut.ensures.value) (all 0 c.index_mut.result.now some) in
    each_set (IsUnusedHandOf c.in-Ok.made.0) c.in-Ok.made.1.items 0 c.forget_within.new.hand (stays_unused c.in-Ok.made.0 c.index_mut.result.now c.forget_within.new.hand first c.forget_within.ensures.hand.arena c.forget_within.ensures.hand.ready c.forget_within.ensures.holdings.same c.forget_within.ensures.stores_nothing c.forget_within.ensures.records_nothing) all

pub returns-in-Ok-forget_within-clause-history : goal.returns-in-Ok-forget_within-clause-history
returns-in-Ok-forget_within-clause-history c =
    let some : 0 < length c.in-Ok.made.1.items = search rules in
    record {
      hand = c.index_mut.result.now;
      new = subst (IsNewHand c.in-Ok.made.0 0) (sym c.index_mut.ensures.value) (first_is_new c.in-Ok.made.0 c.in-Ok.made.1.items c.index_mut.result.now c.in-Ok.ensures.hands some);
      after = c.forget_within.new.hand;
      forgets = c.in-Ok-forget_within.ensures.forgets;
    }
