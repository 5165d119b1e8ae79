-- Tables of which one key is aside: what their other keys lead to, and how many these are.
use Rattle.std.proofs.Common.{◌≡◌, ◌≢◌, ℕ, ◌+◌, nat_eq, true, false, List, [], ◌∷◌, ◌++◌, length, Option, Some, None, IfSome, refl, sym, ap, ◌∙◌, subst, arith}
use Rattle.std.specs.Cmp.{nat_eq_equiv}
use Rattle.std.specs.List.{AllByRecursion, IsDistinct}
use Rattle.std.specs.List.Sorted.{IsPermutation}
use Rattle.std.specs.Map.{keys_of}
use Rattle.std.specs.Option.{option_eq, option_map}
use Rattle.std.proofs.lemmas.List.Sorted.{IsPermutation-sym}
use Rattle.std.proofs.lemmas.Map.{lookup-remove_entry}
use Rattle.mc_stripe.specs.Entries.{HasEachKeyOnce, AreRising, by_key, entries_but, entry_at, with_entry, without_entry}
use Rattle.mc_stripe.specs.Keys.{AddsKeys, keys_but}
use Rattle.mc_stripe.specs.StripeState.{Index, with_aside}
use Rattle.mc_stripe.proofs.Entries.{by_equal, nat_eq_same, nat_eq_other, at_with_entry, at_without_entry, rising_with_entry, rising_without_entry, one_list}
use Rattle.mc_stripe.proofs.Keys.{keys-by_key}
use Rattle.mc_stripe.proofs.Stamps.{Place, with_entry_again}
use Rattle.mc_stripe.proofs.Tables.{by_key_take}

-- what a comparison of keys finds
pub key_is : (aside : Option ℕ) (key : ℕ) → option_eq nat_eq aside (Some key) ≡ true → aside ≡ Some key
key_is None key is = absurd cc
key_is (Some other) key is = by_equal other key (λ _ same. ap (λ (n : ℕ). Some n) same) (λ apart _. absurd cc)

pub key_is_not : (aside : Option ℕ) (key : ℕ) → option_eq nat_eq aside (Some key) ≡ false → IfSome aside (λ other. other ≢ key)
key_is_not None key is = tt
key_is_not (Some other) key is = by_equal other key (λ same _. absurd cc) (λ _ apart. apart)

-- the key aside is this one
pub aside_is : (aside : Option ℕ) (key : ℕ) → aside ≡ Some key → IfSome aside (λ other. other ≡ key)
aside_is aside key is = subst (λ (o : Option ℕ). IfSome o (λ other. other ≡ key)) (sym is) refl

-- tests of one key
one_key : (key x y : ℕ) → nat_eq key x ≡ true → nat_eq key y ≡ nat_eq x y
one_key key x y is = by_equal key x (λ _ same. ap (λ (n : ℕ). nat_eq n y) same) (λ apart _. absurd cc)

module _ {X : Type 0} where
  -- the key aside leads nowhere
  pub none_aside : (entries : List (ℕ × X)) (aside : Option ℕ) (key : ℕ) → AreRising entries → aside ≡ Some key → entry_at (entries_but aside entries) key ≡ None
  none_aside entries None key rising is = absurd cc
  none_aside entries (Some other) key rising is =
      let same : other ≡ key = cc in
      at_without_entry entries other key rising ∙ rw (nat_eq_same key other (sym same)) refl

  -- the others lead where they led
  pub at_entries_but : (entries : List (ℕ × X)) (aside : Option ℕ) (key : ℕ) → AreRising entries → IfSome aside (λ other. other ≢ key) → entry_at (entries_but aside entries) key ≡ entry_at entries key
  at_entries_but entries None key rising apart = refl
  at_entries_but entries (Some other) key rising apart = at_without_entry entries other key rising ∙ rw (nat_eq_other key other (λ is. apart (sym is))) refl

  -- the key aside is put back
  pub with_entry_but : (entries : List (ℕ × X)) (aside : Option ℕ) (key : ℕ) (value : X) → AreRising entries → IfSome aside (λ other. other ≡ key) → with_entry (entries_but aside entries) key value ≡ with_entry entries key value
  with_entry_but entries None key value rising same = refl
  with_entry_but entries (Some other) key value rising same =
      one_list _ _ (rising_with_entry _ key value (rising_without_entry entries other rising)) (rising_with_entry entries key value rising)
      (λ q. at_with_entry (without_entry entries other) key value q ∙ (by_equal q key
      (λ here _. rw here refl)
      (λ elsewhere apart. rw elsewhere (at_without_entry entries other q rising ∙ rw (nat_eq_other q other (λ is. apart (is ∙ same))) refl)) ∙ sym (at_with_entry entries key value q)))

  -- another key is taken
  pub without_entry_but : (entries : List (ℕ × X)) (aside : Option ℕ) (key : ℕ) → AreRising entries → entries_but aside (without_entry entries key) ≡ without_entry (entries_but aside entries) key
  without_entry_but entries None key rising = refl
  without_entry_but entries (Some other) key rising =
      one_list _ _ (rising_without_entry _ other (rising_without_entry entries key rising)) (rising_without_entry _ key (rising_without_entry entries other rising))
      (λ q. at_without_entry (without_entry entries key) other q (rising_without_entry entries key rising)
      ∙ (rw (at_without_entry entries key q rising) (by_equal q other
      (λ here _. rw here (by_equal q key (λ there _. rw there refl) (λ apart _. rw apart (sym (at_without_entry entries other q rising ∙ rw here refl)))))
      (λ elsewhere _. rw elsewhere (by_equal q key (λ there _. rw there refl) (λ apart _. rw apart (sym (at_without_entry entries other q rising ∙ rw elsewhere refl)))))))
      ∙ sym (at_without_entry (without_entry entries other) key q (rising_without_entry entries other rising)))

  -- a key that isn't taken leads where it led
  pub stays_without : (entries : List (ℕ × X)) (aside : Option (ℕ × X)) (key : ℕ) → AreRising entries → IfSome (option_map (λ (entry : ℕ × X). entry.0) aside) (λ other. other ≢ key)
      → IfSome aside (λ entry. entry_at entries entry.0 ≡ Some entry.1) → IfSome aside (λ entry. entry_at (without_entry entries key) entry.0 ≡ Some entry.1)
  stays_without entries None key rising apart leads = tt
  stays_without entries (Some entry) key rising apart leads = at_without_entry entries key entry.0 rising ∙ rw (nat_eq_other entry.0 key apart) leads

  -- there is one entry less
  one_less : (entries : List (ℕ × X)) (key : ℕ) (value : X) → entry_at entries key ≡ Some value → length (without_entry entries key) + 1 ≡ length entries
  one_less [] key value there = absurd cc
  one_less (entry ∷ entries) key value there =
      by_equal key entry.0
      (λ here _. rw here (omega arith))
      (λ apart _. rw apart (omega (arith, one_less entries key value (rw apart at there))))

  pub count_but : (entries : List (ℕ × X)) (aside : Option (ℕ × X)) (entry : ℕ × X) → aside ≡ Some entry → IfSome aside (λ e. entry_at entries e.0 ≡ Some e.1) → length (entries_but (option_map (λ (e : ℕ × X). e.0) aside) entries) + 1 ≡ length entries
  count_but entries None entry is leads = absurd cc
  count_but entries (Some other) entry is leads = one_less entries other.0 other.1 leads

  pub count_all : (entries : List (ℕ × X)) (aside : Option (ℕ × X)) → aside ≡ None → length (entries_but (option_map (λ (e : ℕ × X). e.0) aside) entries) ≡ length entries
  count_all entries None none = refl
  count_all entries (Some other) none = absurd cc

  -- what holds of all keys holds of those that are left
  all_without : (P : ℕ → Type 0) (entries : List (ℕ × X)) (key : ℕ) → AllByRecursion P (keys_of entries) → AllByRecursion P (keys_of (without_entry entries key))
  all_without P [] key all = tt
  all_without P (entry ∷ entries) key all =
      by_equal key entry.0
      (λ here _. rw here all.1)
      (λ apart _. rw apart (all.0, all_without P entries key all.1))

  once_without : (entries : List (ℕ × X)) (key : ℕ) → HasEachKeyOnce entries → HasEachKeyOnce (without_entry entries key)
  unfolding IsDistinct
  once_without [] key once = once
  once_without (entry ∷ entries) key once =
      by_equal key entry.0
      (λ here _. rw here once.1)
      (λ apart _. rw apart (all_without (λ other. nat_eq entry.0 other ≡ false) entries key once.0, once_without entries key once.1))

  pub once_but : (entries : List (ℕ × X)) (aside : Option ℕ) → HasEachKeyOnce entries → HasEachKeyOnce (entries_but aside entries)
  once_but entries None once = once
  once_but entries (Some key) once = once_without entries key once

  -- the entries that are left, by rising key
  pub by_key_but : (entries : List (ℕ × X)) (aside : Option ℕ) → HasEachKeyOnce entries → by_key (entries_but aside entries) ≡ entries_but aside (by_key entries)
  by_key_but entries None once = refl
  by_key_but entries (Some key) once =
      by_key_take entries (without_entry entries key) key (λ q. lookup-remove_entry nat_eq_equiv (nat_eq key) (one_key key) q entries once)

  -- no key but this one
  apart_keys : (entries : List (ℕ × X)) (key : ℕ) → AllByRecursion (λ other. nat_eq key other ≡ false) (keys_of entries) → keys_but (Some key) (keys_of entries) ≡ keys_of entries
  apart_keys [] key apart = refl
  apart_keys (entry ∷ entries) key apart = rw (apart.0) (ap (λ (keys : List ℕ). entry.0 ∷ keys) (apart_keys entries key apart.1))

  -- the keys that are left are those of the entries that are left
  pub keys_left : (entries : List (ℕ × X)) (aside : Option ℕ) → HasEachKeyOnce entries → keys_but aside (keys_of entries) ≡ keys_of (entries_but aside entries)
  unfolding IsDistinct
  keys_left [] None once = refl
  keys_left (entry ∷ entries) None once = ap (λ (keys : List ℕ). entry.0 ∷ keys) (keys_left entries None once.1)
  keys_left [] (Some key) once = refl
  keys_left (entry ∷ entries) (Some key) once =
      by_equal key entry.0
      (λ here same. rw here (ap (λ (k : ℕ). keys_but (Some k) (keys_of entries)) same ∙ apart_keys entries entry.0 once.0))
      (λ apart _. rw apart (ap (λ (keys : List ℕ). entry.0 ∷ keys) (keys_left entries (Some key) once.1)))

-- an entry aside that the table has counts in as the table has it
pub all_with_aside : (entries : Index) (aside : Option (ℕ × Place)) → AreRising entries → IfSome aside (λ entry. entry_at entries entry.0 ≡ Some entry.1) → with_aside (entries_but (option_map (λ (entry : ℕ × Place). entry.0) aside) entries) aside ≡ entries
all_with_aside entries None rising leads = refl
all_with_aside entries (Some entry) rising leads = with_entry_again entries entry.0 entry.1 rising leads

-- all keys that are left were put behind the others
pub keys_put_but : (entries : Index) (aside : Option ℕ) (old new : List ℕ) → HasEachKeyOnce entries → new ≡ old ++ keys_but aside (keys_of entries) → AddsKeys (entries_but aside (by_key entries)) old new
keys_put_but entries aside old new once is = record {
  added = keys_but aside (keys_of entries);
  behind = is;
  each = subst (λ (keys : List ℕ). IsPermutation (keys_of (entries_but aside (by_key entries))) keys) (sym (keys_left entries aside once))
      (subst (λ (index : Index). IsPermutation (keys_of index) (keys_of (entries_but aside entries))) (by_key_but entries aside once)
      (IsPermutation-sym _ _ (keys-by_key (entries_but aside entries) (once_but entries aside once))));
}
