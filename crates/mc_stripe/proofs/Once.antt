-- Entries of which no two have one key.
use Rattle.std.proofs.Common.{◌≡◌, ℕ, nat_eq, true, false, List, [], ◌∷◌, ◌++◌, refl, sym, ap, ◌∙◌, subst}
use Rattle.std.specs.List.{IsDistinct}
use Rattle.std.specs.Map.{keys_of}
use Rattle.mc_stripe.specs.Entries.{HasEachKeyOnce}
use Rattle.mc_stripe.specs.StripeState.{Index, index_stamps}

-- no entries have no key twice
none_once : (X : Type 0) → HasEachKeyOnce {X = X} []
unfolding IsDistinct
none_once X = tt

pub once_empty : {X : Type 0} (entries : List (ℕ × X)) → entries ≡ [] → HasEachKeyOnce entries
once_empty {X} entries empty = subst HasEachKeyOnce (sym empty) (none_once X)

-- stamps have the keys of their entries
keys-stamps_in : (entries : Index) → keys_of (index_stamps entries) ≡ keys_of entries
keys-stamps_in [] = refl
keys-stamps_in (entry ∷ entries) = ap (λ (keys : List ℕ). entry.0 ∷ keys) (keys-stamps_in entries)

-- the stamps of entries whose keys differ
once_stamps : (entries : Index) → HasEachKeyOnce entries → HasEachKeyOnce (index_stamps entries)
once_stamps entries once = subst (IsDistinct nat_eq) (sym (keys-stamps_in entries)) once

-- the stamps were put into an empty list
pub once_all : (entries : Index) (before after : List (ℕ × ℕ)) → HasEachKeyOnce entries → before ≡ [] → after ≡ before ++ index_stamps entries → HasEachKeyOnce after
once_all entries before after once empty is =
    subst HasEachKeyOnce (sym (is ∙ ap (λ (l : List (ℕ × ℕ)). l ++ index_stamps entries) empty)) (once_stamps entries once)

-- two keys that differ
pub two_keys : HasEachKeyOnce {X = ℕ} ((9, 1) ∷ (3, 1) ∷ [])
unfolding IsDistinct
two_keys = ((refl, tt), (tt, tt))

-- and one that comes again
pub one_twice : HasEachKeyOnce {X = ℕ} ((9, 1) ∷ (3, 2) ∷ (9, 1) ∷ []) → ⊥
unfolding IsDistinct
one_twice once = let same : true ≡ false = once.0.1.0 in absurd cc
