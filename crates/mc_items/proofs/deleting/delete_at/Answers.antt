use Rattle.std.proofs.Common.{◌≡◌, Bool, false, ◌&&◌, ap, ◌∙◌}
use Rattle.mc_stripe.specs.StripeState.{ReadyStripe}
use Rattle.mc_core.specs.model.Holdings.{has_fresh}
use Rattle.mc_core.specs.run.Items.{stripe_unlinked}
use Rattle.mc_words.specs.declared.hand.held.StripeHeld.{StripeHeld}
use Rattle.mc_words.specs.hand.View.{View}
use Rattle.mc_items.proofs.Deletes.{and_false, deleted_done, deleted_is}
use Rattle.mc_words.proofs.Hands.HandNumbers.{number_stays}
use Rattle.mc_items.proofs.Freed.{full_call}
use Rattle.mc_items.proofs.deleting.delete_at.Goals as goal

pub give_stripe-requires-2-clause-empty : goal.give_stripe-requires-2-clause-empty
give_stripe-requires-2-clause-empty c =
    let made : View = c.reserve_call.new.hand.seat.me.0 in
    let st = c.reserve_call.new.held.stripe in
    let none : has_fresh made.row.holdings ≡ false = ap (λ (v : View). has_fresh v.row.holdings) c.in_default.ensures.view ∙ c.requires.fresh in
    let kept = c.unlink-there.ensures.stripe ∙ ap (λ (b : Bool). stripe_unlinked st b c.reserve_call.new.hand.number c.args.key) (ap (λ (f : Bool). c.unlink-there.result && f) none ∙ and_false c.unlink-there.result) in
    ap (λ (v : ReadyStripe). v.state.aside) kept ∙ (ap (λ (h : StripeHeld). h.stripe.state.aside) c.in_default.ensures.reserved ∙ c.requires.lent.whole)

pub returns-clause-done : goal.returns-clause-done
returns-clause-done c =
    let view : View = c.args.hand.now.seat.me.0 in
    let made : View = c.reserve_call.new.hand.seat.me.0 in
    let got : View = c.unlink-there.new.hand.seat.me.0 in
    let st = c.reserve_call.new.held.stripe in
    let none : has_fresh made.row.holdings ≡ false = ap (λ (v : View). has_fresh v.row.holdings) c.in_default.ensures.view ∙ c.requires.fresh in
    let kept = c.unlink-there.ensures.stripe ∙ ap (λ (b : Bool). stripe_unlinked st b c.reserve_call.new.hand.number c.args.key) (ap (λ (f : Bool). c.unlink-there.result && f) none ∙ and_false c.unlink-there.result) in
    let number = number_stays c.args.hand.now c.reserve_call.new.hand (ap (λ (v : View). v.row.ids) c.in_default.ensures.view) in
    deleted_done c.args.hand.now.number c.args.held.number c.args.held.stripe c.args.key c.unlink-there.result view made got c.give_stripe-2.new.hand.seat.me.0 c.reserve_call.new.hand.number c.reserve_call.new.held.number c.unlink-there.new.held.number st c.unlink-there.new.held.stripe
    number c.reserve_call.ensures.number (c.unlink-there.ensures.number ∙ c.reserve_call.ensures.number) (ap (λ (h : StripeHeld). h.stripe) c.in_default.ensures.reserved) c.in_default.ensures.view c.unlink-there.ensures.there
    (deleted_is c.reserve_call.new.hand.number c.reserve_call.new.held.number st c.args.key c.unlink-there.result made got none c.unlink-there.ensures.unlinked c.unlink-there.ensures.view) kept c.give_stripe-2.ensures.left

pub returns-in-Err-clause-full : goal.returns-in-Err-clause-full
returns-in-Err-clause-full c = full_call c.args.held.stripe c.reserve_call.result c.in-Err.error c.in-Err.is c.reserve_call.ensures.succeeds c.reserve_call.ensures.idle
