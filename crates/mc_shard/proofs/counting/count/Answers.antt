use Rattle.std.proofs.Common.{◌≡◌, ◌++◌, ◌∷◌, [], ◌∙◌, ap, arith}
use Rattle.mc_classes.specs.declared.config.Config.{Config}
use Rattle.mc_words.specs.hand.Arenas.{setup_of}
use Rattle.mc_words.specs.hand.View.{View}
use Rattle.mc_shard.specs.Walking.{CountsStripe}
use Rattle.mc_shard.proofs.Walks.{one_more, sum_more, walked_all}
use Rattle.mc_shard.proofs.counting.count.Goals as goal

pub loop-stripe-preserved : goal.loop-stripe-preserved
loop-stripe-preserved g c =
    let inv = c.loop-stripe.invariant in
    let looked = c.count_stripe-here.ensures in
    let stripe = c.loop-stripe.stripe in
    let first : View = c.args.hand.now.seat.me.0 in
    let before : View = c.loop-stripe.hand.seat.me.0 in
    let now : View = c.count_stripe-here.new.hand.seat.me.0 in
    let here = c.count_stripe-here.result in
    record {
      idle = record { of_arena = looked.hand.arena; ready = looked.hand.ready; none = looked.holdings.same ∙ inv.idle.none };
      number = looked.hand.number ∙ inv.number;
      done = (
        inv.done.0 ++ here ∷ [],
        one_more CountsStripe stripe here inv.done.0 first before now inv.done.1 c.count_stripe-here.ensures.counts,
        sum_more inv.done.0 c.loop-stripe.count here c.saturating_add-count.result inv.done.2 c.saturating_add-count.ensures,
      );
      calls = looked.calls ∙ inv.calls;
      stores_nothing = looked.stores_nothing ∙ inv.stores_nothing;
      slabs = looked.slabs ∙ inv.slabs;
    }

pub returns-clause-counts : goal.returns-clause-counts
returns-clause-counts g c =
    let inv = c.loop-stripe.invariant in
    let same = ap (λ (f : Config). f.stripes) c.config.ensures.config in
    let ends : c.loop-stripe.stripe ≡ (setup_of c.args.arena.now).config.stripes = omega (arith, c.loop-stripe-test.false, c.loop-stripe.auto.stripe-end, same) in
    walked_all CountsStripe (setup_of c.args.arena.now) c.loop-stripe.stripe c.loop-stripe.count c.args.hand.now c.loop-stripe.hand inv.done.0 ends inv.done.1 inv.done.2
