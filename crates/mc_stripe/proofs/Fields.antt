-- What a stripe in memory is after a change of its fields.
use Rattle.std.proofs.Common.{◌≡◌, ℕ, List, [], ◌∷◌, ◌++◌, Option, sym, ap, ◌∙◌, subst}
use Rattle.mc_stripe.specs.declared.history.Call.{Call}
use Rattle.mc_stripe.specs.StripeState.{Index, StripeState}
use Rattle.mc_stripe.specs.Legal.{IsLegal}
use Rattle.mc_stripe.proofs.Stamps.{Place}

-- a history that ends by this call
pub ends_by : (old new : List Call) (call other : Call) → new ≡ old ++ call ∷ [] → call ≡ other → new ≡ old ++ other ∷ []
ends_by old new call other is same = is ∙ ap (λ (last : Call). old ++ last ∷ []) same

-- the fields are those of a legal stripe
pub IsLegal-fields : (stripe : StripeState) (index : Index) (aside : Option (ℕ × Place)) (history : List Call) (from : Option ℕ) → index ≡ stripe.index → aside ≡ stripe.aside → history ≡ stripe.history → from ≡ stripe.recorded_from → IsLegal stripe → IsLegal (record { index = index; aside = aside; history = history; recorded_from = from })
IsLegal-fields stripe index aside history from same_index same_aside same_history same_from legal =
    subst (λ (i : Index). IsLegal (record { index = i; aside = aside; history = history; recorded_from = from })) (sym same_index)
    (subst (λ (a : Option (ℕ × Place)). IsLegal (record { index = stripe.index; aside = a; history = history; recorded_from = from })) (sym same_aside)
    (subst (λ (h : List Call). IsLegal (record { index = stripe.index; aside = stripe.aside; history = h; recorded_from = from })) (sym same_history)
    (subst (λ (f : Option ℕ). IsLegal (record { index = stripe.index; aside = stripe.aside; history = stripe.history; recorded_from = f })) (sym same_from) legal)))
