use Rattle.std.proofs.Common.{}
use Rattle.mc_stripe.specs.StripeState.{new_stripe}
use Rattle.mc_stripe.proofs.Kept.{IsLegal-new}
use Rattle.mc_stripe.proofs.Fields.{IsLegal-fields}
use Rattle.mc_stripe.proofs.stripe.Stripe.new.Goals as goal

pub invariant_of-result : goal.invariant_of-result
invariant_of-result c = record {
  legal = IsLegal-fields new_stripe.state _ _ _ _ c.new.ensures.index c.new.ensures.aside c.new-2.ensures.all c.new-2.ensures.from IsLegal-new;
  spare = λ is. absurd cc;
  entry = λ is. absurd cc;
  call = λ is. absurd cc;
}

pub returns-clause-legal : goal.returns-clause-legal
returns-clause-legal c = (invariant_of-result c).legal
