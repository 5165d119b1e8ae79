use Rattle.std.proofs.Common.{◌≢◌, is_some, IfSome, arith, sym, ap, ◌∙◌, subst}
use Rattle.mc_stripe.specs.declared.history.Call.TheVariants.{Delete}
use Rattle.mc_stripe.specs.StripeState.{ReadyStripe, key_aside}
use Rattle.mc_stripe.specs.Changes.{after_unlink}
use Rattle.mc_stripe.specs.InOrder.{callers_stripe}
use Rattle.mc_stripe.proofs.Kept.{IsLegal-after_unlink}
use Rattle.mc_stripe.proofs.Fields.{ends_by, IsLegal-fields}
use Rattle.mc_stripe.proofs.stripe.Stripe.unlink.Goals as goal

pub invariant_of-self : goal.invariant_of-self
invariant_of-self c =
    let stripe = callers_stripe c.self.inside in
    let apart = subst (λ (s : ReadyStripe). IfSome (key_aside s.state) (λ other. other ≢ c.args.key)) (sym c.self.view_is) c.requires.aside in
    let was_there = c.is_some-was_there.ensures ∙ ap is_some c.take.ensures.place in
    let told = ends_by stripe.history _ _ _ c.tell.ensures.all (ap (Delete c.args.hand c.args.key) was_there) in
    record {
      legal = IsLegal-fields (after_unlink stripe c.args.hand c.args.key) _ _ _ _ c.take.ensures.index c.take.ensures.aside told c.tell.ensures.from (IsLegal-after_unlink stripe c.args.hand c.args.key c.self.invariant.legal apart);
      spare = λ is. omega (arith, c.self.invariant.spare is, c.take.ensures.kept);
      entry = λ is. absurd cc;
      call = λ is. absurd cc;
    }

pub returns-clause-legal : goal.returns-clause-legal
returns-clause-legal c = (invariant_of-self c).legal
