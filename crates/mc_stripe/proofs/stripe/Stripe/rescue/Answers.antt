use Rattle.std.proofs.Common.{◌≡◌, ℕ, Option, Some, arith, sym, ap, ◌∙◌, subst}
use Rattle.std.specs.Option.{option_map_or}
use Rattle.mc_pages.specs.declared.ids.ChunkId.{ChunkId}
use Rattle.mc_stripe.specs.Entries.{with_entry}
use Rattle.mc_stripe.specs.StripeState.{Index, ReadyStripe, key_aside}
use Rattle.mc_stripe.specs.Changes.{after_rescue}
use Rattle.mc_stripe.specs.InOrder.{callers_stripe}
use Rattle.mc_stripe.proofs.Kept.{IsLegal-after_rescue}
use Rattle.mc_stripe.proofs.Stamps.{Place}
use Rattle.mc_stripe.proofs.Fields.{IsLegal-fields}
use Rattle.mc_stripe.proofs.stripe.Stripe.rescue.Goals as goal

-- the stamp is that of the entry aside
chunk_put : (index : Index) (aside : Option (ℕ × Place)) (entry : ℕ × Place) (key : ℕ) (chunk : ChunkId) → aside ≡ Some entry → with_entry index key (chunk, entry.1.1) ≡ with_entry index key (chunk, option_map_or (λ (e : ℕ × Place). e.1.1) aside 0)
chunk_put index aside entry key chunk is = ap (λ (a : Option (ℕ × Place)). with_entry index key (chunk, option_map_or (λ (e : ℕ × Place). e.1.1) a 0)) (sym is)

pub invariant_of-self : goal.invariant_of-self
invariant_of-self c =
    let stripe = callers_stripe c.self.inside in
    let is = subst (λ (s : ReadyStripe). key_aside s.state ≡ Some c.args.key) (sym c.self.view_is) c.requires.aside in
    record {
      legal = IsLegal-fields (after_rescue stripe c.args.hand c.args.key c.args.chunk) _ _ _ _ (c.put_back.ensures.index ∙ chunk_put stripe.index _ _ c.args.key c.args.chunk (sym c.entry_aside.ensures ∙ c.in-Some.is)) c.put_back.ensures.aside c.tell.ensures.all c.tell.ensures.from (IsLegal-after_rescue stripe c.args.hand c.args.key c.args.chunk c.self.invariant.legal is);
      spare = λ is. omega (arith, c.put_back.ensures.room, c.self.invariant.spare is);
      entry = λ is. absurd cc;
      call = λ is. absurd cc;
    }

pub returns-in-Some-clause-legal : goal.returns-in-Some-clause-legal
returns-in-Some-clause-legal c = (invariant_of-self c).legal
