use Rattle.std.proofs.Common.{◌<◌, ℕ, List, ap, arith, sym, subst, ◌∙◌}
use Rattle.mc_classes.specs.declared.config.Config.{Config}
use Rattle.std.specs.List.{range_with_len}
use Rattle.mc_core.specs.declared.event.StripeChange.TheVariants.{Trim}
use Rattle.mc_words.specs.hand.View.{View}
use Rattle.mc_words.specs.lock.Doing.{HoldsStripe}
use Rattle.mc_mover.specs.Recording.{Changes, ChangesEach, Leaves}
use Rattle.mc_mover.proofs.GivenBack.{unfull_more}
use Rattle.mc_mover.proofs.Recorded.{each_keeps, each_more, hold_keeps, holdings_kept, mine_kept, numbers_more, refs_kept, said_kept, leaves_quiet}
use Rattle.mc_mover.proofs.Refusals.{as_error, no_ok}
use Rattle.mc_mover.proofs.recording.trim_stripes.Goals as goal

pub returns-in_err-trim_stripe-clause-stops : goal.returns-in_err-trim_stripe-clause-stops
returns-in_err-trim_stripe-clause-stops g c = as_error c.from_residual.result (record {
  stripe = c.loop-stripe.stripe;
  before = c.loop-stripe.hand.seat.me.0;
  trims = c.loop-stripe.invariant.so_far;
  unfull = c.loop-stripe.invariant.unfull;
  stops = c.in_err-trim_stripe.ensures.leaves;
})

pub returns-in_err-trim_stripe-clause-trims : goal.returns-in_err-trim_stripe-clause-trims
returns-in_err-trim_stripe-clause-trims g c = no_ok _ c.from_residual.result c.from_residual.ensures.0

pub returns-in_err-trim_stripe-clause-holdings : goal.returns-in_err-trim_stripe-clause-holdings
returns-in_err-trim_stripe-clause-holdings g c =
    let same = holdings_kept c.args.hand.now c.trim_stripe.new.hand
    (hold_keeps Leaves leaves_quiet c.loop-stripe.stripe c.loop-stripe.hand.seat.me.0 c.trim_stripe.new.hand.seat.me.0 c.in_err-trim_stripe.ensures.leaves
    ∙ each_keeps Trim c.args.hand.now.number (range_with_len 0 c.loop-stripe.stripe) c.args.hand.now.seat.me.0 c.loop-stripe.hand.seat.me.0 c.loop-stripe.invariant.so_far) in
    record {
      same = same;
      references = refs_kept c.args.hand.now c.trim_stripe.new.hand
          (hold_keeps Leaves leaves_quiet c.loop-stripe.stripe c.loop-stripe.hand.seat.me.0 c.trim_stripe.new.hand.seat.me.0 c.in_err-trim_stripe.ensures.leaves
          ∙ each_keeps Trim c.args.hand.now.number (range_with_len 0 c.loop-stripe.stripe) c.args.hand.now.seat.me.0 c.loop-stripe.hand.seat.me.0 c.loop-stripe.invariant.so_far);
    }

pub returns-in_err-trim_stripe-clause-stores_nothing : goal.returns-in_err-trim_stripe-clause-stores_nothing
returns-in_err-trim_stripe-clause-stores_nothing g c = said_kept c.args.hand.now c.trim_stripe.new.hand
    (hold_keeps Leaves leaves_quiet c.loop-stripe.stripe c.loop-stripe.hand.seat.me.0 c.trim_stripe.new.hand.seat.me.0 c.in_err-trim_stripe.ensures.leaves
    ∙ each_keeps Trim c.args.hand.now.number (range_with_len 0 c.loop-stripe.stripe) c.args.hand.now.seat.me.0 c.loop-stripe.hand.seat.me.0 c.loop-stripe.invariant.so_far)

pub returns-in_err-trim_stripe-clause-records_nothing : goal.returns-in_err-trim_stripe-clause-records_nothing
returns-in_err-trim_stripe-clause-records_nothing g c = mine_kept c.args.hand.now c.trim_stripe.new.hand
    (hold_keeps Leaves leaves_quiet c.loop-stripe.stripe c.loop-stripe.hand.seat.me.0 c.trim_stripe.new.hand.seat.me.0 c.in_err-trim_stripe.ensures.leaves
    ∙ each_keeps Trim c.args.hand.now.number (range_with_len 0 c.loop-stripe.stripe) c.args.hand.now.seat.me.0 c.loop-stripe.hand.seat.me.0 c.loop-stripe.invariant.so_far)

pub loop-stripe-preserved : goal.loop-stripe-preserved
loop-stripe-preserved g c =
    let inv = c.loop-stripe.invariant in
    let stripe = c.loop-stripe.stripe in
    let view : View = c.args.hand.now.seat.me.0 in
    let before : View = c.loop-stripe.hand.seat.me.0 in
    let now : View = c.trim_stripe.new.hand.seat.me.0 in
    let stays = c.trim_stripe.ensures.hand in
    let one = subst (λ (n : ℕ). HoldsStripe stripe (Changes Trim n stripe) before now) inv.hand.number c.in_ok-trim_stripe.ensures.trims in record {
      hand = record {
        arena = stays.arena;
        ready = stays.ready;
        locks = stays.locks ∙ inv.hand.locks;
        number = stays.number ∙ inv.hand.number;
      };
      so_far = subst (λ (stripes : List ℕ). ChangesEach Trim c.args.hand.now.number stripes view now) (sym (numbers_more stripe)) (each_more Trim c.args.hand.now.number stripe (range_with_len 0 stripe) view before now inv.so_far one);
      unfull = unfull_more c.args.hand.now.number stripe before now one inv.unfull c.in_ok-trim_stripe.ensures.unfull;
    }

pub returns-clause-holdings : goal.returns-clause-holdings
returns-clause-holdings g c =
    let same = holdings_kept c.args.hand.now c.loop-stripe.hand (each_keeps Trim c.args.hand.now.number (range_with_len 0 c.loop-stripe.stripe) c.args.hand.now.seat.me.0 c.loop-stripe.hand.seat.me.0 c.loop-stripe.invariant.so_far) in
    record { same = same; references = refs_kept c.args.hand.now c.loop-stripe.hand (each_keeps Trim c.args.hand.now.number (range_with_len 0 c.loop-stripe.stripe) c.args.hand.now.seat.me.0 c.loop-stripe.hand.seat.me.0 c.loop-stripe.invariant.so_far) }

pub returns-clause-stores_nothing : goal.returns-clause-stores_nothing
returns-clause-stores_nothing g c = said_kept c.args.hand.now c.loop-stripe.hand (each_keeps Trim c.args.hand.now.number (range_with_len 0 c.loop-stripe.stripe) c.args.hand.now.seat.me.0 c.loop-stripe.hand.seat.me.0 c.loop-stripe.invariant.so_far)

pub returns-clause-records_nothing : goal.returns-clause-records_nothing
returns-clause-records_nothing g c = mine_kept c.args.hand.now c.loop-stripe.hand (each_keeps Trim c.args.hand.now.number (range_with_len 0 c.loop-stripe.stripe) c.args.hand.now.seat.me.0 c.loop-stripe.hand.seat.me.0 c.loop-stripe.invariant.so_far)

pub returns-in_err-trim_stripe-clause-unfull : goal.returns-in_err-trim_stripe-clause-unfull
returns-in_err-trim_stripe-clause-unfull g c = no_ok _ c.from_residual.result c.from_residual.ensures.0

pub returns-clause-unfull : goal.returns-clause-unfull
returns-clause-unfull g c = λ stripe in_range.
    let same = ap (λ (f : Config). f.stripes) c.config.ensures.config in
    let last = c.loop-stripe-test.false in
    let within : stripe < c.loop-stripe.stripe = omega (arith, in_range, same, last) in
    c.loop-stripe.invariant.unfull stripe within
