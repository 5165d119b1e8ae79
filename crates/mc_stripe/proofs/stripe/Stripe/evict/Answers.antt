use Rattle.std.proofs.Common.{IsSome, arith, sym, subst}
use Rattle.mc_stripe.specs.StripeState.{ReadyStripe, chunk_and_stamp}
use Rattle.mc_stripe.specs.Changes.{after_evict}
use Rattle.mc_stripe.specs.InOrder.{callers_stripe}
use Rattle.mc_stripe.proofs.Kept.{IsLegal-after_evict, not_aside}
use Rattle.mc_stripe.proofs.Fields.{IsLegal-fields}
use Rattle.mc_stripe.proofs.stripe.Stripe.evict.Goals as goal

pub take-requires : goal.take-requires
take-requires c =
    let stripe = callers_stripe c.self.inside in
    let there = subst (λ (s : ReadyStripe). IsSome (chunk_and_stamp s.state c.args.key)) (sym c.self.view_is) c.requires.there in
    record { apart = not_aside stripe.index stripe.aside c.args.key c.self.invariant.legal.apart there }

pub invariant_of-self : goal.invariant_of-self
invariant_of-self c =
    let stripe = callers_stripe c.self.inside in
    let there = subst (λ (s : ReadyStripe). IsSome (chunk_and_stamp s.state c.args.key)) (sym c.self.view_is) c.requires.there in
    record {
      legal = IsLegal-fields (after_evict stripe c.args.hand c.args.key) _ _ _ _ c.take.ensures.index c.take.ensures.aside c.tell.ensures.all c.tell.ensures.from (IsLegal-after_evict stripe c.args.hand c.args.key c.self.invariant.legal there);
      spare = λ is. omega (arith, c.self.invariant.spare is, c.take.ensures.kept);
      entry = λ is. absurd cc;
      call = λ is. absurd cc;
    }

pub returns-clause-legal : goal.returns-clause-legal
returns-clause-legal c = (invariant_of-self c).legal
