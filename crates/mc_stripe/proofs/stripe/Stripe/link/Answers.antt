use Rattle.std.proofs.Common.{◌≡◌, Bool, true, false, ◌&&◌, IfSome, arith, sym, subst}
use Rattle.mc_stripe.specs.StripeState.{ReadyStripe, can_store, key_aside}
use Rattle.mc_stripe.specs.Changes.{after_link}
use Rattle.mc_stripe.specs.InOrder.{callers_stripe}
use Rattle.mc_stripe.proofs.Kept.{IsLegal-after_link}
use Rattle.mc_stripe.proofs.Fields.{IsLegal-fields}
use Rattle.mc_stripe.proofs.stripe.Stripe.link.Goals as goal

-- where there is room for both, there is room for an entry
both : (call entry : Bool) → call && entry ≡ true → entry ≡ true
both true entry is = is
both false entry is = absurd cc

pub invariant_of-self : goal.invariant_of-self
invariant_of-self c =
    let stripe = callers_stripe c.self.inside in
    let same = subst (λ (s : ReadyStripe). IfSome (key_aside s.state) (λ other. other ≡ c.args.key)) (sym c.self.view_is) c.requires.aside in
    let room = both c.self.inside.ready c.self.inside.entry (subst (λ (s : ReadyStripe). can_store s ≡ true) (sym c.self.view_is) c.requires.room) in
    record {
      legal = IsLegal-fields (after_link stripe c.args.hand c.args.key c.args.chunk c.args.stamp) _ _ _ _ c.put-self-inside.ensures.index c.put-self-inside.ensures.aside c.tell.ensures.all c.tell.ensures.from (IsLegal-after_link stripe c.args.hand c.args.key c.args.chunk c.args.stamp c.self.invariant.legal same);
      spare = λ is. omega (arith, c.put-self-inside.ensures.room is, c.self.invariant.spare (c.self.invariant.entry room));
      entry = λ is. absurd cc;
      call = λ is. absurd cc;
    }

pub returns-clause-legal : goal.returns-clause-legal
returns-clause-legal c = (invariant_of-self c).legal
