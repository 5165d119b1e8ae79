use Rattle.std.proofs.Common.{◌<◌, ℕ, List, ap, arith, sym, subst, ◌∙◌}
use Rattle.std.specs.List.{range_with_len}
use Rattle.mc_classes.specs.declared.config.Config.{Config}
use Rattle.mc_core.specs.declared.event.StripeChange.TheVariants.{Trim}
use Rattle.mc_words.specs.hand.View.{View}
use Rattle.mc_words.specs.lock.Doing.{HoldsStripe}
use Rattle.mc_mover.specs.Recording.{Changes, ChangesEach}
use Rattle.mc_mover.proofs.GivenBack.{unfull_more}
use Rattle.mc_mover.proofs.Missed.{holdings_so, if_refused, refused_keeps}
use Rattle.mc_mover.proofs.Recorded.{each_keeps, each_more, holdings_kept, mine_kept, numbers_more, refs_kept, said_kept}
use Rattle.mc_mover.proofs.recording_within.trim_stripes_within.Goals as goal

pub returns-in-Err-clause-missed : goal.returns-in-Err-clause-missed
returns-in-Err-clause-missed c is =
    let same = ap (λ (f : Config). f.stripes) c.config.ensures.config in
    let more = c.loop-stripe-test.true in
    record {
      stripe = c.loop-stripe.stripe;
      in_range = omega (arith, same, more);
      before = c.loop-stripe.hand.seat.me.0;
      changes = c.loop-stripe.invariant.so_far;
      misses = c.in-Err.ensures.missed is;
    }

pub returns-in-Err-clause-stops : goal.returns-in-Err-clause-stops
returns-in-Err-clause-stops c = if_refused c.in-Err.error _ _ (λ leaves. record {
  stripe = c.loop-stripe.stripe;
  before = c.loop-stripe.hand.seat.me.0;
  trims = c.loop-stripe.invariant.so_far;
  unfull = c.loop-stripe.invariant.unfull;
  stops = leaves;
}) c.in-Err.ensures.leaves

pub loop-stripe-preserved : goal.loop-stripe-preserved
loop-stripe-preserved c =
    let inv = c.loop-stripe.invariant in
    let stripe = c.loop-stripe.stripe in
    let view : View = c.args.hand.now.seat.me.0 in
    let before : View = c.loop-stripe.hand.seat.me.0 in
    let now : View = c.trim_stripe_within.new.hand.seat.me.0 in
    let stays = c.trim_stripe_within.ensures.hand in
    let one = subst (λ (n : ℕ). HoldsStripe stripe (Changes Trim n stripe) before now) inv.hand.number c.in_default.ensures.trims in record {
      hand = record {
        arena = stays.arena;
        ready = stays.ready;
        locks = stays.locks ∙ inv.hand.locks;
        number = stays.number ∙ inv.hand.number;
      };
      so_far = subst (λ (stripes : List ℕ). ChangesEach Trim c.args.hand.now.number stripes view now) (sym (numbers_more stripe)) (each_more Trim c.args.hand.now.number stripe (range_with_len 0 stripe) view before now inv.so_far one);
      unfull = unfull_more c.args.hand.now.number stripe before now one inv.unfull c.in_default.ensures.unfull;
    }

pub returns-clause-holdings : goal.returns-clause-holdings
returns-clause-holdings c =
    let same = holdings_kept c.args.hand.now c.loop-stripe.hand (each_keeps Trim c.args.hand.now.number (range_with_len 0 c.loop-stripe.stripe) c.args.hand.now.seat.me.0 c.loop-stripe.hand.seat.me.0 c.loop-stripe.invariant.so_far) in
    record { same = same; references = refs_kept c.args.hand.now c.loop-stripe.hand (each_keeps Trim c.args.hand.now.number (range_with_len 0 c.loop-stripe.stripe) c.args.hand.now.seat.me.0 c.loop-stripe.hand.seat.me.0 c.loop-stripe.invariant.so_far) }

pub returns-clause-stores_nothing : goal.returns-clause-stores_nothing
returns-clause-stores_nothing c = said_kept c.args.hand.now c.loop-stripe.hand (each_keeps Trim c.args.hand.now.number (range_with_len 0 c.loop-stripe.stripe) c.args.hand.now.seat.me.0 c.loop-stripe.hand.seat.me.0 c.loop-stripe.invariant.so_far)

pub returns-clause-records_nothing : goal.returns-clause-records_nothing
returns-clause-records_nothing c = mine_kept c.args.hand.now c.loop-stripe.hand (each_keeps Trim c.args.hand.now.number (range_with_len 0 c.loop-stripe.stripe) c.args.hand.now.seat.me.0 c.loop-stripe.hand.seat.me.0 c.loop-stripe.invariant.so_far)

pub returns-clause-unfull : goal.returns-clause-unfull
returns-clause-unfull c = λ stripe in_range.
    let same = ap (λ (f : Config). f.stripes) c.config.ensures.config in
    let last = c.loop-stripe-test.false in
    let within : stripe < c.loop-stripe.stripe = omega (arith, in_range, same, last) in
    c.loop-stripe.invariant.unfull stripe within

pub returns-in-Err-clause-holdings : goal.returns-in-Err-clause-holdings
returns-in-Err-clause-holdings c = holdings_so c.args.hand.now c.trim_stripe_within.new.hand
    (refused_keeps c.args.tries c.in-Err.error c.loop-stripe.stripe c.loop-stripe.hand.seat.me.0 c.trim_stripe_within.new.hand.seat.me.0 c.in-Err.ensures.missed c.in-Err.ensures.leaves
    ∙ each_keeps Trim c.args.hand.now.number (range_with_len 0 c.loop-stripe.stripe) c.args.hand.now.seat.me.0 c.loop-stripe.hand.seat.me.0 c.loop-stripe.invariant.so_far)

pub returns-in-Err-clause-stores_nothing : goal.returns-in-Err-clause-stores_nothing
returns-in-Err-clause-stores_nothing c = said_kept c.args.hand.now c.trim_stripe_within.new.hand
    (refused_keeps c.args.tries c.in-Err.error c.loop-stripe.stripe c.loop-stripe.hand.seat.me.0 c.trim_stripe_within.new.hand.seat.me.0 c.in-Err.ensures.missed c.in-Err.ensures.leaves
    ∙ each_keeps Trim c.args.hand.now.number (range_with_len 0 c.loop-stripe.stripe) c.args.hand.now.seat.me.0 c.loop-stripe.hand.seat.me.0 c.loop-stripe.invariant.so_far)

pub returns-in-Err-clause-records_nothing : goal.returns-in-Err-clause-records_nothing
returns-in-Err-clause-records_nothing c = mine_kept c.args.hand.now c.trim_stripe_within.new.hand
    (refused_keeps c.args.tries c.in-Err.error c.loop-stripe.stripe c.loop-stripe.hand.seat.me.0 c.trim_stripe_within.new.hand.seat.me.0 c.in-Err.ensures.missed c.in-Err.ensures.leaves
    ∙ each_keeps Trim c.args.hand.now.number (range_with_len 0 c.loop-stripe.stripe) c.args.hand.now.seat.me.0 c.loop-stripe.hand.seat.me.0 c.loop-stripe.invariant.so_far)
