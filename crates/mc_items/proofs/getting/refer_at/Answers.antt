use Rattle.std.proofs.Common.{Some, None, refl, ap, sym, subst, ◌∙◌}
use Rattle.mc_core.specs.model.Holdings.{key_of}
use Rattle.mc_words.specs.declared.hand.held.StripeHeld.{StripeHeld}
use Rattle.mc_words.specs.hand.View.{View}
use Rattle.mc_words.specs.item.Items.{held_item}
use Rattle.mc_words.specs.item.Refs.{IsIssueOf, IsRefOf}
use Rattle.mc_items.proofs.Gets.{got_item, looked_up, stamp_found}
use Rattle.mc_words.proofs.Hands.HandNumbers.{number_stays}
use Rattle.mc_items.proofs.Freed.{full_call}
use Rattle.mc_items.proofs.getting.refer_at.Goals as goal

pub returns-in-Some-clause-done : goal.returns-in-Some-clause-done
returns-in-Some-clause-done c =
    let made = c.reserve_call.new.hand in
    let number = number_stays c.args.hand.now made (ap (λ (v : View). v.row.ids) c.in_default.ensures.view) in
    looked_up c.args.hand.now.number c.args.held.number c.args.held.stripe c.args.key (Some c.in-Some.reference) c.args.hand.now.seat.me.0 made.seat.me.0 c.refer_within.new.hand.seat.me.0 c.give_stripe-in-Some.new.hand.seat.me.0 made.number c.reserve_call.new.held.number c.refer_within.new.held.number
    c.reserve_call.new.held.stripe c.refer_within.new.held.stripe number c.reserve_call.ensures.number (c.refer_within.ensures.number ∙ c.reserve_call.ensures.number) (ap (λ (h : StripeHeld). h.stripe) c.in_default.ensures.reserved) c.in_default.ensures.view c.refer_within.ensures.records c.in-Some.ensures.gets
    (λ e. absurd (cc)) c.give_stripe-in-Some.ensures.left

pub returns-in-None-clause-done : goal.returns-in-None-clause-done
returns-in-None-clause-done c =
    let made = c.reserve_call.new.hand in
    let number = number_stays c.args.hand.now made (ap (λ (v : View). v.row.ids) c.in_default.ensures.view) in
    looked_up c.args.hand.now.number c.args.held.number c.args.held.stripe c.args.key None c.args.hand.now.seat.me.0 made.seat.me.0 c.refer_within.new.hand.seat.me.0 c.give_stripe-in-None.new.hand.seat.me.0 made.number c.reserve_call.new.held.number c.refer_within.new.held.number
    c.reserve_call.new.held.stripe c.refer_within.new.held.stripe number c.reserve_call.ensures.number (c.refer_within.ensures.number ∙ c.reserve_call.ensures.number) (ap (λ (h : StripeHeld). h.stripe) c.in_default.ensures.reserved) c.in_default.ensures.view c.refer_within.ensures.records tt
    (λ e. ((c.in-None.ensures.none refl).0, c.in-None.ensures.view refl)) c.give_stripe-in-None.ensures.left

pub returns-in-Some-clause-reference : goal.returns-in-Some-clause-reference
returns-in-Some-clause-reference c =
    let was = c.reserve_call.new.hand in
    let r = c.in-Some.reference in
    let got : View = c.refer_within.new.hand.seat.me.0 in
    let left = c.give_stripe-in-Some.ensures.left in
    let gets = c.in-Some.ensures.gets in (
      subst (λ (v : View). IsRefOf v r.chunk r.room) (sym left) c.in-Some.ensures.reference.0,
      subst (λ (v : View). IsIssueOf v r.chunk r.issue) (sym left) c.in-Some.ensures.reference.1,
      ap (λ (v : View). key_of (held_item v r.chunk)) left
          ∙ (ap key_of (got_item was.seat.me.0 got was.number c.reserve_call.new.held.number c.reserve_call.new.held.stripe c.args.key r.chunk r.issue r.room gets c.refer_within.ensures.arena.lawful) ∙ gets.key_is),
    )

pub returns-in-Some-clause-stamp : goal.returns-in-Some-clause-stamp
returns-in-Some-clause-stamp c =
    stamp_found c.args.held.stripe c.reserve_call.new.held.stripe c.refer_within.new.held.stripe c.args.key c.reserve_call.new.hand.number c.reserve_call.new.held.number c.refer_within.new.held.number (Some c.in-Some.reference) c.reserve_call.new.hand.seat.me.0 c.refer_within.new.hand.seat.me.0 c.give_stripe-in-Some.new.hand.seat.me.0
    (ap (λ (h : StripeHeld). h.stripe) c.in_default.ensures.reserved) c.give_stripe-in-Some.ensures.left c.refer_within.ensures.arena.lawful c.in-Some.ensures.gets (λ e. absurd (cc))

pub returns-in-None-clause-stamp : goal.returns-in-None-clause-stamp
returns-in-None-clause-stamp c =
    stamp_found c.args.held.stripe c.reserve_call.new.held.stripe c.refer_within.new.held.stripe c.args.key c.reserve_call.new.hand.number c.reserve_call.new.held.number c.refer_within.new.held.number None c.reserve_call.new.hand.seat.me.0 c.refer_within.new.hand.seat.me.0 c.give_stripe-in-None.new.hand.seat.me.0
    (ap (λ (h : StripeHeld). h.stripe) c.in_default.ensures.reserved) c.give_stripe-in-None.ensures.left c.refer_within.ensures.arena.lawful tt (λ e. (c.in-None.ensures.none refl).0)

pub returns-in-Err-clause-full : goal.returns-in-Err-clause-full
returns-in-Err-clause-full c = full_call c.args.held.stripe c.reserve_call.result c.in-Err.error c.in-Err.is c.reserve_call.ensures.succeeds c.reserve_call.ensures.idle
