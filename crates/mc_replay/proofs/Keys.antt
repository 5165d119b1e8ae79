-- The keys of entries, in their order.
use Rattle.std.proofs.Common.{◌≡◌, ℕ, ◌∙◌, List, [], ◌∷◌, map, refl, ap}
use Rattle.std.specs.BTreeSet.{insert_key}
use Rattle.std.specs.BTreeMap.{insert_entry}
use Rattle.std.specs.Ordering.{nat_cmp, match_ordering}
use Rattle.std.specs.declared.cmp.Ordering.{Ordering}
use Rattle.std.specs.declared.cmp.Ordering.TheVariants.{Less, Equal, Greater}
use Rattle.mc_stripe.specs.Entries.{with_entry}

abbrev pub keys_of : List (ℕ × ℕ) → List ℕ
keys_of entries = map (λ entry. entry.0) entries

-- an entry more has its key put among the others
pub keys_with : (entries : List (ℕ × ℕ)) (key stamp : ℕ) → keys_of (with_entry entries key stamp) ≡ insert_key nat_cmp (keys_of entries) key
keys_with [] key stamp = refl
keys_with (e ∷ es) key stamp = by (nat_cmp key e.0) ∙ ap (λ l. match_ordering (nat_cmp key e.0) (key ∷ e.0 ∷ keys_of es) (e.0 ∷ keys_of es) (e.0 ∷ l)) (keys_with es key stamp)
  where
    by : (o : Ordering) → keys_of (match_ordering o ((key, stamp) ∷ e ∷ es) ((e.0, stamp) ∷ es) (e ∷ insert_entry nat_cmp es key stamp)) ≡ match_ordering o (key ∷ e.0 ∷ keys_of es) (e.0 ∷ keys_of es) (e.0 ∷ keys_of (insert_entry nat_cmp es key stamp))
    by Less = refl
    by Equal = refl
    by Greater = refl
