use Rattle.std.proofs.Common.{◌≡◌, Bool, true, false, ◌&&◌, is_some, refl, ap, subst, ◌∙◌}
use Rattle.mc_stripe.specs.StripeState.{ReadyStripe, chunk_and_stamp}
use Rattle.mc_core.specs.model.Holdings.{has_fresh}
use Rattle.mc_core.specs.run.Items.{stripe_unlinked}
use Rattle.mc_words.specs.declared.hand.held.StripeHeld.{StripeHeld}
use Rattle.mc_words.specs.hand.View.{View}
use Rattle.mc_words.specs.lock.Doing.{UsesRoomForCall}
use Rattle.mc_words.proofs.Hands.HandNumbers.{number_stays}
use Rattle.mc_items.specs.Calls.{Deletes}
use Rattle.mc_items.proofs.Deletes.{and_false, deleted_done, deleted_is}
use Rattle.mc_items.proofs.Freed.{full_call}
use Rattle.mc_items.proofs.Visits.{unlinked_slabs, unlinked_so}
use Rattle.mc_items.proofs.visiting.unlink_at.Goals as goal

pub returns-in-Err-clause-full : goal.returns-in-Err-clause-full
returns-in-Err-clause-full c = full_call c.args.held.stripe c.reserve_call.result c.in-Err.error c.in-Err.is c.reserve_call.ensures.succeeds c.reserve_call.ensures.idle

pub returns-clause-unlinks : goal.returns-clause-unlinks
returns-clause-unlinks c _ =
    let view : View = c.args.hand.now.seat.me.0 in
    let made : View = c.reserve_call.new.hand.seat.me.0 in
    let got : View = c.unlink.new.hand.seat.me.0 in
    let now : View = c.give_stripe-2.new.hand.seat.me.0 in
    let st = c.reserve_call.new.held.stripe in
    let hand = c.args.hand.now in
    let held = c.args.held in
    let key = c.args.key in
    let led = c.leads_to.ensures.leads c.if-not-leads_to.false in
    let same = ap (λ (h : StripeHeld). h.stripe) c.in_default.ensures.reserved in
    let there : c.unlink.result ≡ true = c.unlink.ensures.there ∙ (ap (λ (v : ReadyStripe). is_some (chunk_and_stamp v.state key)) same ∙ ap is_some led.1) in
    let none : has_fresh made.row.holdings ≡ false = ap (λ (v : View). has_fresh v.row.holdings) c.in_default.ensures.view ∙ c.requires.fresh in
    let kept = c.unlink.ensures.stripe ∙ ap (λ (b : Bool). stripe_unlinked st b c.reserve_call.new.hand.number key) (ap (λ (f : Bool). c.unlink.result && f) none ∙ and_false c.unlink.result) in
    let number = number_stays hand c.reserve_call.new.hand (ap (λ (v : View). v.row.ids) c.in_default.ensures.view) in
    let done = deleted_done hand.number held.number held.stripe key c.unlink.result view made got now c.reserve_call.new.hand.number c.reserve_call.new.held.number c.unlink.new.held.number st c.unlink.new.held.stripe
    number c.reserve_call.ensures.number (c.unlink.ensures.number ∙ c.reserve_call.ensures.number) same c.in_default.ensures.view c.unlink.ensures.there
    (deleted_is c.reserve_call.new.hand.number c.reserve_call.new.held.number st key c.unlink.result made got none c.unlink.ensures.unlinked c.unlink.ensures.view) kept c.give_stripe-2.ensures.left in
    unlinked_so hand.number held.number held.stripe c.args.chunk key led.0 view now c.requires.key led.1
    (subst (λ (b : Bool). UsesRoomForCall hand.number held.number held.stripe (Deletes hand.number held.number key b) view now) there done)

pub returns-clause-slabs : goal.returns-clause-slabs
returns-clause-slabs c = unlinked_slabs c.args.hand.now.number c.args.held.number c.args.chunk c.args.held.stripe c.args.hand.now.seat.me.0 c.give_stripe-2.new.hand.seat.me.0 (returns-clause-unlinks c refl)
