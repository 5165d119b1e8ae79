-- The keys of a table and of its entries by rising key: they are the same, in another order.
use Rattle.std.proofs.Common.{◌≡◌, ℕ, nat_eq, false, List, [], ◌∷◌, length, Some, None, IsSome, refl, sym, ap, ◌∙◌, subst}
use Rattle.std.specs.List.{AllByRecursion, IsDistinct}
use Rattle.std.specs.List.Sorted.{IsPermutation}
use Rattle.std.specs.Map.{keys_of}
use Rattle.std.proofs.lemmas.List.Sorted.{IsPermutation-refl, IsPermutation-sym, IsPermutation-cons, IsPermutation-middle, IsPermutation-trans, length_permutation}
use Rattle.std.proofs.lemmas.Map.Entries.{length-keys_of}
use Rattle.mc_stripe.specs.Entries.{HasEachKeyOnce, by_key, entry_at, with_entry}
use Rattle.mc_stripe.proofs.Entries.{at_by_key, by_order, nat_eq_same}

module _ {X : Type 0} where
  -- a key that is below none of the others, and equal to none
  none_there : (key : ℕ) (entries : List (ℕ × X)) → AllByRecursion (λ other. nat_eq key other ≡ false) (keys_of entries) → entry_at entries key ≡ None
  none_there key [] apart = refl
  none_there key (entry ∷ entries) apart = rw apart.0 (none_there key entries apart.1)

  not_none : (value : X) → Some value ≡ None → ⊥
  not_none value is = cc

  here : (entry : ℕ × X) (entries : List (ℕ × X)) → entry_at (entry ∷ entries) entry.0 ≡ Some entry.1
  here entry entries = rw (nat_eq_same entry.0 entry.0 refl) refl

  -- a new key comes among the others
  keys-with_entry : (entries : List (ℕ × X)) (key : ℕ) (value : X) → entry_at entries key ≡ None → IsPermutation (key ∷ keys_of entries) (keys_of (with_entry entries key value))
  keys-with_entry [] key value none = IsPermutation-refl _
  keys-with_entry (entry ∷ entries) key value none =
      by_order key entry.0
      (λ before _. rw before (IsPermutation-refl _))
      (λ _ equal _. absurd (not_none entry.1 (rw equal at none)))
      (λ not_before apart _. rw (not_before, apart)
      (IsPermutation-trans _ _ _
      (IsPermutation-sym _ _ (IsPermutation-middle (entry.0 ∷ []) key (keys_of entries)))
      (IsPermutation-cons entry.0 _ _ (keys-with_entry entries key value (rw apart at none)))))

  -- the keys by rising key are those of the table
  pub keys-by_key : (entries : List (ℕ × X)) → HasEachKeyOnce entries → IsPermutation (keys_of entries) (keys_of (by_key entries))
  unfolding IsDistinct
  keys-by_key [] once = IsPermutation-refl _
  keys-by_key (entry ∷ entries) once =
      IsPermutation-trans _ _ _ (IsPermutation-cons entry.0 _ _ (keys-by_key entries once.1))
      (keys-with_entry (by_key entries) entry.0 entry.1 (at_by_key entries entry.0 ∙ none_there entry.0 entries once.0))

  -- there are as many entries by rising key
  pub length-by_key : (entries : List (ℕ × X)) → HasEachKeyOnce entries → length (by_key entries) ≡ length entries
  length-by_key entries once =
      sym (length-keys_of (by_key entries)) ∙ (length_permutation (keys_of entries) (keys_of (by_key entries)) (keys-by_key entries once) ∙ length-keys_of entries)

  -- the first key leads somewhere
  pub first_leads : (entries : List (ℕ × X)) (key : ℕ) (rest : List ℕ) → keys_of entries ≡ key ∷ rest → IsSome (entry_at (by_key entries) key)
  first_leads [] key rest is = absurd (no_keys key rest is) where
    no_keys : (key : ℕ) (rest : List ℕ) → [] ≡ key ∷ rest → ⊥
    no_keys key rest is = cc
  first_leads (entry ∷ entries) key rest is =
      let same : entry.0 ≡ key = cc in
      let leads : entry_at (by_key (entry ∷ entries)) key ≡ Some entry.1 = at_by_key (entry ∷ entries) key ∙ (ap (entry_at (entry ∷ entries)) (sym same) ∙ here entry entries) in
      subst IsSome (sym leads) refl

  -- no keys are no entries
  pub none-by_key : (entries : List (ℕ × X)) → keys_of entries ≡ [] → by_key entries ≡ []
  none-by_key [] is = refl
  none-by_key (entry ∷ entries) is = absurd (some_keys entry.0 (keys_of entries) is) where
    some_keys : (key : ℕ) (rest : List ℕ) → key ∷ rest ≡ [] → ⊥
    some_keys key rest is = cc

  pub none_by_none : (entries : List (ℕ × X)) → by_key entries ≡ [] → keys_of entries ≡ []
  none_by_none [] is = refl
  none_by_none (entry ∷ entries) is =
      absurd (not_none entry.1 (sym (here entry entries) ∙ (sym (at_by_key (entry ∷ entries) entry.0) ∙ ap (λ (l : List (ℕ × X)). entry_at l entry.0) is)))
