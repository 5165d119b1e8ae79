use Rattle.std.proofs.Common.{◌≡◌, ◌≢◌, IfSome, refl, sym, ap, ◌∙◌, subst}
use Rattle.std.specs.Option.{option_map}
use Rattle.mc_stripe.specs.declared.history.Call.TheVariants.{Get}
use Rattle.mc_stripe.specs.StripeState.{ReadyStripe, key_aside, chunk_and_stamp}
use Rattle.mc_stripe.specs.Changes.{after_got}
use Rattle.mc_stripe.specs.InOrder.{callers_stripe}
use Rattle.mc_stripe.proofs.Kept.{IsLegal-after_got}
use Rattle.mc_stripe.proofs.Fields.{ends_by, IsLegal-fields}
use Rattle.mc_stripe.proofs.stripe.Stripe.got.Goals as goal

pub invariant_of-self : goal.invariant_of-self
invariant_of-self c =
    let stripe = callers_stripe c.self.inside in
    let apart = subst (λ (s : ReadyStripe). IfSome (key_aside s.state) (λ other. other ≢ c.args.key)) (sym c.self.view_is) c.requires.aside in
    let found = subst (λ (s : ReadyStripe). c.args.found ≡ chunk_and_stamp s.state c.args.key) (sym c.self.view_is) c.requires.found in
    let stamp = c.stamp_of-stamp.ensures ∙ ap (option_map (λ place. place.1)) found in
    let told = ends_by stripe.history _ _ _ c.tell.ensures.all (ap (Get c.args.hand c.args.key) stamp) in
    record {
      legal = IsLegal-fields (after_got stripe c.args.hand c.args.key) _ _ _ _ refl refl told c.tell.ensures.from (IsLegal-after_got stripe c.args.hand c.args.key c.self.invariant.legal apart);
      spare = c.self.invariant.spare;
      entry = λ is. absurd cc;
      call = λ is. absurd cc;
    }

pub returns-clause-legal : goal.returns-clause-legal
returns-clause-legal c = (invariant_of-self c).legal
