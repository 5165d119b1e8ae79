use Rattle.std.proofs.Common.{ap, ◌∙◌}
use Rattle.mc_core.specs.declared.event.StripeChange.TheVariants.{Forget}
use Rattle.mc_words.specs.lock.Out.{without_stripe}
use Rattle.mc_words.specs.declared.hand.held.StripeHeld.{StripeHeld}
use Rattle.mc_mover.specs.Recording.{Changes}
use Rattle.mc_mover.proofs.Missed.{stripe_missed_keeps}
use Rattle.mc_mover.proofs.Recorded.{changes_quiet, hand_kept, held_for, hold_keeps, stripe_back, waited_number}
use Rattle.mc_mover.proofs.recording_within.forget_stripe_within.Goals as goal

pub returns-in_default-clause-hand : goal.returns-in_default-clause-hand
returns-in_default-clause-hand c =
    let same = stripe_missed_keeps c.args.tries c.args.stripe c.args.hand.now.seat.me.0 c.stripe_within.new.hand.seat.me.0 c.in_default.ensures.missed in
    hand_kept c.args.hand.now c.stripe_within.new.hand same c.args.arena.now c.stripe_within.ensures.arena c.in_default.ensures.same c.requires.ready

pub returns-clause-forgets : goal.returns-clause-forgets
returns-clause-forgets c =
    let taken = c.stripe_within.new.hand in
    let held = c.in-Ok in
    held_for Forget c.args.hand.now.number taken.number c.args.stripe held.held.number c.forget.new.held.number held.held.stripe held.held.stripe c.forget.new.held.stripe
    c.args.hand.now.seat.me.0 taken.seat.me.0 c.forget.new.hand.seat.me.0 c.give_stripe.new.hand.seat.me.0 held.ensures.within.waits
    (waited_number c.args.hand.now taken c.args.stripe held.held.stripe held.ensures.within.waits) held.ensures.number (c.forget.ensures.number ∙ held.ensures.number)
    (ap (λ (h : StripeHeld). h.stripe) c.forget.ensures.forgets) c.forget.ensures.view c.give_stripe.ensures.left

pub returns-clause-hand : goal.returns-clause-hand
returns-clause-hand c =
    let locks = c.give_stripe.ensures.locks ∙ (ap without_stripe (c.forget.ensures.locks ∙ c.in-Ok.ensures.locks) ∙ stripe_back c.args.hand.now c.args.stripe c.requires.ready.unlocked) in
    hand_kept c.args.hand.now c.give_stripe.new.hand (hold_keeps (Changes Forget c.args.hand.now.number c.args.stripe) (changes_quiet Forget c.args.hand.now.number c.args.stripe) c.args.stripe c.args.hand.now.seat.me.0 c.give_stripe.new.hand.seat.me.0 (returns-clause-forgets c)) c.args.arena.now c.give_stripe.ensures.arena locks c.requires.ready
