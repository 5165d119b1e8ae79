-- Each event keeps the histories of the stripes legal.
use Rattle.std.proofs.Common.{◌≡◌, ◌≢◌, ℕ, zero, suc, ◌+◌, true, List, replicate, Option, Some, None, refl, sym, ap, subst, ◌∙◌, inl, inr, arith, slice_get, is_some, is_none}
use Rattle.std.specs.Option.{option_map_or}
use Rattle.std.proofs.lemmas.Bool.{and_parts}
use Rattle.std.proofs.lemmas.List.{length-replicate}
use Rattle.std.proofs.lemmas.List.Elements.{All-replicate}
use Rattle.mc_stripe.specs.StripeState.{ReadyStripe, new_stripe}
use Rattle.mc_stripe.specs.Legal.{IsLegal}
use Rattle.mc_stripe.proofs.Kept.{IsLegal-new}
use Rattle.mc_core.specs.declared.event.Step.{Step}
use Rattle.mc_core.specs.declared.event.Step.TheVariants as step
use Rattle.mc_core.specs.model.State.{State, number_at, has_stripe, stripe_at}
use Rattle.mc_core.specs.run.Locks.{lock_word}
use Rattle.mc_core.specs.run.Run.{after_step}
use Rattle.mc_core.specs.law.Indexed.{AreLegal}
use Rattle.mc_core.specs.past.Past.{Moment, StoredItem}
use Rattle.mc_core.specs.law.Lawful.{LegalIn}
use Rattle.mc_core.specs.law.Laws.{MayStep, ChangesKeep, StepsKeep, HoldsAtFirst}
use Rattle.mc_core.proofs.Histories.StripesKept.{legal_locked}
use Rattle.mc_core.proofs.Histories.Tellings.{tells_legal}
use Rattle.mc_core.proofs.Histories.ToldBy.{MayTell, told_by_change, told_by_step}
use Rattle.mc_core.proofs.Frame.Own.{is_plain, own_step, own_change}

legal_told : (state : State) (now : List ReadyStripe) (locks : List ℕ) (hand : ℕ) (said : List StoredItem) → AreLegal state.stripes state.stripe_locks → locks ≡ state.stripe_locks → MayTell state now hand said → AreLegal now locks
legal_told state now locks hand said l same (inl quiet) = subst (λ (ls : List ℕ). AreLegal now ls) (sym same) (subst (λ (xs : List ReadyStripe). AreLegal xs state.stripe_locks) (sym quiet.0) l)
legal_told state now locks hand said l same (inr told) = subst (λ (ls : List ℕ). AreLegal now ls) (sym same) (tells_legal state now hand said l told)

pub legal_changes : ChangesKeep LegalIn
legal_changes m hand change may = legal_told m.state _ _ hand _ may.lawful.legal (own_change m.state hand change).stripe_locks (told_by_change m.state hand may.lawful.legal change may.allowed)

-- a hand that is there writes no 0
lock_word-some : (state : State) (hand : ℕ) (number : Option ℕ) → number_at state hand ≡ number → is_some number ≡ true → lock_word state hand ≢ 0
lock_word-some state hand None is h = absurd (cc)
lock_word-some state hand (Some number) is h = λ zero_is. absurd (omega (arith, sym zero_is ∙ ap (λ (o : Option ℕ). option_map_or (λ (n : ℕ). n + 1) o 0) is))

none_is : {X : Type 0} (o : Option X) → is_none o ≡ true → o ≡ None
none_is None h = refl
none_is (Some x) h = absurd (cc)

plain : (m : Moment) (hand : ℕ) (step : Step) → is_plain step ≡ true → MayStep m hand step → AreLegal (after_step m.state hand step).stripes (after_step m.state hand step).stripe_locks
plain m hand step h may = legal_told m.state _ _ hand _ may.lawful.legal (own_step m.state hand step h).stripe_locks (told_by_step m.state hand may.lawful.legal step may.allowed)

pub legal_steps : StepsKeep LegalIn
legal_steps m hand step.TakeSlabs may = may.lawful.legal
legal_steps m hand (step.TakeStripe stripe) may =
    legal_locked m.state.stripes m.state.stripe_locks stripe (lock_word m.state hand) may.lawful.legal (λ zero_is. absurd (lock_word-some m.state hand (number_at m.state hand) refl may.there zero_is))
legal_steps m hand step.MissSlabs may = plain m hand step.MissSlabs refl may
legal_steps m hand (step.MissStripe stripe) may = plain m hand (step.MissStripe stripe) refl may
legal_steps m hand step.GiveSlabs may = may.lawful.legal
legal_steps m hand (step.GiveStripe stripe) may =
    let parts = and_parts (has_stripe m.state hand stripe) (is_none (stripe_at m.state stripe).state.aside) may.allowed in
    legal_locked m.state.stripes m.state.stripe_locks stripe 0 may.lawful.legal (λ _. none_is (stripe_at m.state stripe).state.aside parts.1)
legal_steps m hand (step.Head chunk) may = plain m hand (step.Head chunk) refl may
legal_steps m hand (step.Pop class) may = plain m hand (step.Pop class) refl may
legal_steps m hand (step.PopOff old) may = plain m hand (step.PopOff old) refl may
legal_steps m hand (step.Fill chunk place word) may = plain m hand (step.Fill chunk place word) refl may
legal_steps m hand (step.Word chunk place) may = plain m hand (step.Word chunk place) refl may
legal_steps m hand (step.WordHeld chunk place) may = plain m hand (step.WordHeld chunk place) refl may
legal_steps m hand (step.Link chunk) may = plain m hand (step.Link chunk) refl may
legal_steps m hand (step.Refer key) may = plain m hand (step.Refer key) refl may
legal_steps m hand (step.Unlink key) may = plain m hand (step.Unlink key) refl may
legal_steps m hand (step.Release chunk) may = plain m hand (step.Release chunk) refl may
legal_steps m hand (step.Discard chunk) may = plain m hand (step.Discard chunk) refl may
legal_steps m hand (step.Condemn chunk) may = plain m hand (step.Condemn chunk) refl may
legal_steps m hand (step.PutBack chunk) may = plain m hand (step.PutBack chunk) refl may
legal_steps m hand (step.Clear chunk) may = plain m hand (step.Clear chunk) refl may
legal_steps m hand (step.Cut page index) may = plain m hand (step.Cut page index) refl may
legal_steps m hand (step.Again chunk issue) may = plain m hand (step.Again chunk issue) refl may
legal_steps m hand (step.Join kept spent) may = may.lawful.legal

replicated : (count stripe : ℕ) (value : ReadyStripe) → slice_get (replicate count new_stripe) stripe ≡ Some value → new_stripe ≡ value
replicated zero stripe value e = absurd (cc)
replicated (suc count) zero value e = cc
replicated (suc count) (suc stripe) value e = replicated count stripe value e

none_some : {X : Type 0} (x : X) → None ≡ Some x → ⊥
none_some x e = cc

new_at : (count stripe : ℕ) (value : ReadyStripe) → slice_get (replicate count new_stripe) stripe ≡ Some value → value ≡ new_stripe
new_at count stripe value e = sym (replicated count stripe value e)

pub legal_first : HoldsAtFirst LegalIn
legal_first table stripes hands start sound some _ _ _ = record {
  lock_count = length-replicate stripes 0 ∙ sym (length-replicate stripes new_stripe);
  some = omega (arith, some, length-replicate stripes new_stripe);
  legal = All-replicate (λ (v : ReadyStripe). IsLegal v.state) stripes new_stripe IsLegal-new;
  free = λ stripe value locked at. ap (λ (v : ReadyStripe). v.state.aside) (new_at stripes stripe value at);
  aside = λ stripe value entry at is. absurd (none_some entry (sym (ap (λ (v : ReadyStripe). v.state.aside) (new_at stripes stripe value at)) ∙ is));
}
