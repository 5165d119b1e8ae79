use Rattle.std.proofs.Common.{ap, ◌∙◌}
use Rattle.mc_words.specs.hand.View.{View}
use Rattle.mc_words.specs.hand.Views.{stripe_given}
use Rattle.mc_mover.proofs.GivenBack.{taken_unfull}
use Rattle.mc_core.specs.declared.event.StripeChange.TheVariants.{Trim}
use Rattle.mc_words.specs.lock.Out.{without_stripe}
use Rattle.mc_words.specs.declared.hand.held.StripeHeld.{StripeHeld}
use Rattle.mc_mover.specs.Recording.{Changes, Leaves}
use Rattle.mc_mover.proofs.Missed.{stripe_missed_keeps}
use Rattle.mc_mover.proofs.Recorded.{changes_quiet, hand_kept, held_for, hold_keeps, leaves_quiet, stripe_back, waited_number}
use Rattle.mc_mover.proofs.recording_within.trim_stripe_within.Goals as goal

pub returns-in-Err-clause-leaves : goal.returns-in-Err-clause-leaves
returns-in-Err-clause-leaves c =
    let held = c.in-Ok in
    let taken = c.stripe_within.new.hand in
    record {
      found = held.held.stripe;
      taken = taken.seat.me.0;
      waits = held.ensures.within.waits;
      left = c.trim.new.held.stripe;
      last = c.trim.new.hand.seat.me.0;
      does = (ap (λ (h : StripeHeld). h.stripe) c.in-Err.ensures.refused.0, c.in-Err.ensures.refused.1);
      given = c.give_stripe.ensures.left ∙ ap (λ n. stripe_given n c.trim.new.held.stripe c.trim.new.hand.seat.me.0) (c.trim.ensures.number ∙ held.ensures.number);
    }

pub returns-in-Err-clause-hand : goal.returns-in-Err-clause-hand
returns-in-Err-clause-hand c =
    let locks = c.give_stripe.ensures.locks ∙ (ap without_stripe (c.trim.ensures.locks ∙ c.in-Ok.ensures.locks) ∙ stripe_back c.args.hand.now c.args.stripe c.requires.ready.unlocked) in
    hand_kept c.args.hand.now c.give_stripe.new.hand (hold_keeps Leaves leaves_quiet c.args.stripe c.args.hand.now.seat.me.0 c.give_stripe.new.hand.seat.me.0 (returns-in-Err-clause-leaves c)) c.args.arena.now c.give_stripe.ensures.arena locks c.requires.ready

pub returns-clause-trims : goal.returns-clause-trims
returns-clause-trims c =
    let held = c.in-Ok in
    let taken = c.stripe_within.new.hand in
    held_for Trim c.args.hand.now.number taken.number c.args.stripe held.held.number c.trim.new.held.number held.held.stripe held.held.stripe c.trim.new.held.stripe
    c.args.hand.now.seat.me.0 taken.seat.me.0 c.trim.new.hand.seat.me.0 c.give_stripe-2.new.hand.seat.me.0 held.ensures.within.waits
    (waited_number c.args.hand.now taken c.args.stripe held.held.stripe held.ensures.within.waits) held.ensures.number (c.trim.ensures.number ∙ held.ensures.number)
    (ap (λ (h : StripeHeld). h.stripe) c.in_default-trim.ensures.trimmed) c.in_default-trim.ensures.view c.give_stripe-2.ensures.left

pub returns-clause-hand : goal.returns-clause-hand
returns-clause-hand c =
    let locks = c.give_stripe-2.ensures.locks ∙ (ap without_stripe (c.trim.ensures.locks ∙ c.in-Ok.ensures.locks) ∙ stripe_back c.args.hand.now c.args.stripe c.requires.ready.unlocked) in
    hand_kept c.args.hand.now c.give_stripe-2.new.hand (hold_keeps (Changes Trim c.args.hand.now.number c.args.stripe) (changes_quiet Trim c.args.hand.now.number c.args.stripe) c.args.stripe c.args.hand.now.seat.me.0 c.give_stripe-2.new.hand.seat.me.0 (returns-clause-trims c)) c.args.arena.now c.give_stripe-2.ensures.arena locks c.requires.ready

pub returns-in-Err-clause-first : goal.returns-in-Err-clause-first
returns-in-Err-clause-first c = λ other.
    let held = c.in-Ok in
    let taken = c.stripe_within.new.hand in
    record {
      found = held.held.stripe;
      taken = taken.seat.me.0;
      waits = held.ensures.within.waits;
      left = c.trim.new.held.stripe;
      last = c.trim.new.hand.seat.me.0;
      does = (λ full. let says = c.in-Err.ensures.first full.0 full.1 in absurd (cc), (ap (λ (h : StripeHeld). h.stripe) c.in-Err.ensures.refused.0, c.in-Err.ensures.refused.1));
      given = c.give_stripe.ensures.left ∙ ap (λ n. stripe_given n c.trim.new.held.stripe c.trim.new.hand.seat.me.0) (c.trim.ensures.number ∙ held.ensures.number);
    }

pub returns-clause-unfull : goal.returns-clause-unfull
returns-clause-unfull c =
    let held = c.in-Ok in
    let taken = c.stripe_within.new.hand in
    taken_unfull c.args.stripe c.args.hand.now.seat.me.0 c.give_stripe-2.new.hand.seat.me.0
    (record {
      found = held.held.stripe;
      taken = taken.seat.me.0;
      waits = held.ensures.within.waits;
      left = c.trim.new.held.stripe;
      last = c.trim.new.hand.seat.me.0;
      does = ap (λ (v : View). v.row.knows.hold) c.in_default-trim.ensures.view;
      given = c.give_stripe-2.ensures.left ∙ ap (λ n. stripe_given n c.trim.new.held.stripe c.trim.new.hand.seat.me.0) (c.trim.ensures.number ∙ held.ensures.number);
    })
    (λ full. let says = c.in_default-trim.ensures.first full.0 full.1 in absurd (cc))

pub returns-in_default-clause-hand : goal.returns-in_default-clause-hand
returns-in_default-clause-hand c =
    let same = stripe_missed_keeps c.args.tries c.args.stripe c.args.hand.now.seat.me.0 c.stripe_within.new.hand.seat.me.0 c.in_default.ensures.missed in
    hand_kept c.args.hand.now c.stripe_within.new.hand same c.args.arena.now c.stripe_within.ensures.arena c.in_default.ensures.same c.requires.ready
