use Rattle.std.proofs.Common.{◌≡◌, IsSome, None, arith, refl, sym, ap, ◌∙◌, subst}
use Rattle.std.specs.Option.{option_map}
use Rattle.mc_stripe.specs.Places.{PlaceTable}
use Rattle.mc_stripe.specs.StripeState.{ReadyStripe}
use Rattle.mc_stripe.specs.Changes.{after_lift}
use Rattle.mc_stripe.specs.InOrder.{callers_stripe}
use Rattle.mc_stripe.proofs.Kept.{IsLegal-after_lift}
use Rattle.mc_stripe.proofs.Fields.{IsLegal-fields}
use Rattle.mc_stripe.proofs.Stamps.{Place}
use Rattle.mc_stripe.proofs.stripe.Stripe.lift.Goals as goal

pub invariant_of-self : goal.invariant_of-self
invariant_of-self c =
    let stripe = callers_stripe c.self.inside in
    let found = sym c.find.ensures ∙ c.unwrap-found.ensures in
    let none = subst (λ (s : ReadyStripe). s.state.aside ≡ None) (sym c.self.view_is) c.requires.none in
    let there = subst IsSome (sym found) refl in
    let aside = ap (λ (table : PlaceTable). table.aside) c.lift.ensures ∙ ap (option_map (λ (place : Place). (c.args.key, place))) (sym found) in
    let room = ap (λ (table : PlaceTable). table.room) c.lift.ensures in
    record {
      legal = IsLegal-fields (after_lift stripe c.args.key) _ _ _ _ (ap (λ (table : PlaceTable). table.index) c.lift.ensures) aside refl refl (IsLegal-after_lift stripe c.args.key c.self.invariant.legal there none);
      spare = λ is. omega (arith, c.self.invariant.spare is, room);
      entry = c.self.invariant.entry;
      call = c.self.invariant.call;
    }

pub returns-clause-legal : goal.returns-clause-legal
returns-clause-legal c = (invariant_of-self c).legal
