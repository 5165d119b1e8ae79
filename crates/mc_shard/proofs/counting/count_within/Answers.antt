use Rattle.std.proofs.Common.{◌≡◌, ◌<◌, ◌++◌, ◌∷◌, [], ◌∙◌, ap, arith}
use Rattle.mc_classes.specs.declared.config.Config.{Config}
use Rattle.mc_words.specs.hand.Arenas.{setup_of}
use Rattle.mc_words.specs.hand.View.{View}
use Rattle.mc_shard.specs.Walking.{CountsStripe}
use Rattle.mc_shard.proofs.Walks.{missed_counting, one_more, sum_more, walked_all}
use Rattle.mc_shard.proofs.counting.count_within.Goals as goal

pub loop-stripe-preserved : goal.loop-stripe-preserved
loop-stripe-preserved c =
    let inv = c.loop-stripe.invariant in
    let looked = c.count_stripe_within.ensures in
    let stripe = c.loop-stripe.stripe in
    let first : View = c.args.hand.now.seat.me.0 in
    let before : View = c.loop-stripe.hand.seat.me.0 in
    let now : View = c.count_stripe_within.new.hand.seat.me.0 in
    let here = c.in-Ok.here in
    record {
      idle = record { of_arena = looked.hand.arena; ready = looked.hand.ready; none = looked.holdings.same ∙ inv.idle.none };
      number = looked.hand.number ∙ inv.number;
      done = (
        inv.done.0 ++ here ∷ [],
        one_more CountsStripe stripe here inv.done.0 first before now inv.done.1 c.in-Ok.ensures.counts,
        sum_more inv.done.0 c.loop-stripe.count here c.saturating_add-count.result inv.done.2 c.saturating_add-count.ensures,
      );
      calls = looked.calls ∙ inv.calls;
      stores_nothing = looked.stores_nothing ∙ inv.stores_nothing;
      slabs = looked.slabs ∙ inv.slabs;
    }

pub returns-clause-counts : goal.returns-clause-counts
returns-clause-counts c =
    let inv = c.loop-stripe.invariant in
    let same = ap (λ (f : Config). f.stripes) c.config.ensures.config in
    let ends : c.loop-stripe.stripe ≡ (setup_of c.args.arena.now).config.stripes = omega (arith, c.loop-stripe-test.false, c.loop-stripe.auto.stripe-end, same) in
    walked_all CountsStripe (setup_of c.args.arena.now) c.loop-stripe.stripe c.loop-stripe.count c.args.hand.now c.loop-stripe.hand inv.done.0 ends inv.done.1 inv.done.2

pub returns-in-Err-clause-held : goal.returns-in-Err-clause-held
returns-in-Err-clause-held c =
    let inv = c.loop-stripe.invariant in
    let same = ap (λ (f : Config). f.stripes) c.config.ensures.config in
    let in_range : c.loop-stripe.stripe < (setup_of c.args.arena.now).config.stripes = omega (arith, c.loop-stripe-test.true, same) in
    missed_counting (setup_of c.args.arena.now) c.args.tries c.args.hand.now c.loop-stripe.hand c.count_stripe_within.new.hand c.loop-stripe.stripe inv.done.0 in_range inv.done.1 c.in-Err.ensures.held
