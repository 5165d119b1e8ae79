use Rattle.std.proofs.Common.{Some, ap, sym, ◌∙◌}
use Rattle.mc_words.specs.declared.hand.held.StripeHeld.{StripeHeld}
use Rattle.mc_words.specs.hand.View.{View}
use Rattle.mc_items.proofs.Evicts.{done_so, reason_still, stripe_still}
use Rattle.mc_words.proofs.Hands.HandNumbers.{number_stays}
use Rattle.mc_words.specs.item.Removal.{Condemns}
use Rattle.mc_items.proofs.Freed.{full_call}
use Rattle.mc_items.proofs.evicting.condemn_at.Goals as goal

pub condemn-requires-clause-key : goal.condemn-requires-clause-key
condemn-requires-clause-key c =
    stripe_still c.args.hand.now.seat.me.0 c.reserve_call.new.hand.seat.me.0 c.args.slabs.now.shared c.requires.slabs c.args.held.number _ c.args.held.stripe c.in_default.ensures.view c.args.chunk
    ∙ (c.requires.key ∙ ap (λ n. Some n) (sym c.reserve_call.ensures.number))

pub condemn-requires-clause-reason : goal.condemn-requires-clause-reason
condemn-requires-clause-reason c =
    reason_still c.args.hand.now.seat.me.0 c.reserve_call.new.hand.seat.me.0 c.args.slabs.now.shared c.requires.slabs c.args.held.number _ c.args.held.stripe c.in_default.ensures.view c.args.chunk c.requires.reason

pub returns-in-Ok-clause-taken : goal.returns-in-Ok-clause-taken
returns-in-Ok-clause-taken c _ =
    let made = c.reserve_call.new.hand in
    let number = number_stays c.args.hand.now made (ap (λ (v : View). v.row.ids) c.in_default.ensures.view) in
    done_so (λ number stripe. Condemns number stripe c.args.chunk) c.args.hand.now.number c.args.held.number c.args.held.stripe c.args.hand.now.seat.me.0 made.seat.me.0 c.condemn.new.hand.seat.me.0 c.give_stripe-in-Ok.new.hand.seat.me.0
    made.number c.reserve_call.new.held.number c.condemn.new.stripe.number c.reserve_call.new.held.stripe c.condemn.new.stripe.stripe number c.reserve_call.ensures.number (c.condemn.ensures.number ∙ c.reserve_call.ensures.number)
    (ap (λ (h : StripeHeld). h.stripe) c.in_default.ensures.reserved) c.in_default.ensures.view c.in-Ok.ensures.condemned c.give_stripe-in-Ok.ensures.left

pub returns-in-Err-clause-full : goal.returns-in-Err-clause-full
returns-in-Err-clause-full c = full_call c.args.held.stripe c.reserve_call.result c.in-Err.error c.in-Err.is c.reserve_call.ensures.succeeds c.reserve_call.ensures.idle
