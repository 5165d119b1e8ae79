use Rattle.std.proofs.Common.{ap, ◌∙◌}
use Rattle.mc_core.specs.declared.event.StripeChange.TheVariants.{Forget}
use Rattle.mc_words.specs.lock.Out.{without_stripe}
use Rattle.mc_words.specs.declared.hand.held.StripeHeld.{StripeHeld}
use Rattle.mc_mover.specs.Recording.{Changes}
use Rattle.mc_mover.proofs.Recorded.{changes_quiet, hand_kept, held_for, hold_keeps, stripe_back, waited_number}
use Rattle.mc_mover.proofs.recording.forget_stripe.Goals as goal

pub returns-clause-forgets : goal.returns-clause-forgets
returns-clause-forgets g c =
    let held = c.lock_stripe-held in
    held_for Forget c.args.hand.now.number held.new.hand.number c.args.stripe held.result.number c.forget.new.held.number held.result.stripe held.result.stripe c.forget.new.held.stripe
    c.args.hand.now.seat.me.0 held.new.hand.seat.me.0 c.forget.new.hand.seat.me.0 c.give_stripe.new.hand.seat.me.0 held.ensures.waits
    (waited_number c.args.hand.now held.new.hand c.args.stripe held.result.stripe held.ensures.waits) held.ensures.number (c.forget.ensures.number ∙ held.ensures.number)
    (ap (λ (h : StripeHeld). h.stripe) c.forget.ensures.forgets) c.forget.ensures.view c.give_stripe.ensures.left

pub returns-clause-hand : goal.returns-clause-hand
returns-clause-hand g c =
    let locks = c.give_stripe.ensures.locks ∙ (ap without_stripe (c.forget.ensures.locks ∙ c.lock_stripe-held.ensures.locks) ∙ stripe_back c.args.hand.now c.args.stripe c.requires.ready.unlocked) in
    hand_kept c.args.hand.now c.give_stripe.new.hand (hold_keeps (Changes Forget c.args.hand.now.number c.args.stripe) (changes_quiet Forget c.args.hand.now.number c.args.stripe) c.args.stripe c.args.hand.now.seat.me.0 c.give_stripe.new.hand.seat.me.0 (returns-clause-forgets g c)) c.args.arena.now c.give_stripe.ensures.arena locks c.requires.ready
