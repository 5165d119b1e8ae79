-- Lists of entries by rising key: what a key leads to after a change, and that a map has one such list.
use Rattle.std.proofs.Common.{◌≡◌, ◌≢◌, ℕ, ◌<◌, nat_lt, nat_eq, true, false, cond, List, [], ◌∷◌, Option, Some, None, refl, sym, ap, ap₂, ◌∙◌, subst, arith, inl, inr}
use Rattle.std.proofs.lemmas.Bool.{cases_Bool}
use Rattle.std.proofs.lemmas.Bool.Decides.{nat_tests}
use Rattle.mc_stripe.specs.Entries.{entry_at, with_entry, without_entry, IsBelow, AreRising, by_key}

-- three ways in which two keys can stand
pub by_order : {G : Type 0} (a b : ℕ) → (nat_lt a b ≡ true → a < b → G) → (nat_lt a b ≡ false → nat_eq a b ≡ true → a ≡ b → G) → (nat_lt a b ≡ false → nat_eq a b ≡ false → b < a → G) → G
by_order a b less same more =
    elim (cases_Bool (nat_lt a b)) [
      | inl below ↦ less below (grind (arith, nat_tests))
      | inr not_below ↦ elim (cases_Bool (nat_eq a b)) [
        | inl equal ↦ same not_below equal (grind (arith, nat_tests))
        | inr other ↦ more not_below other (grind (arith, nat_tests))
      ]
    ]

-- two ways
pub by_equal : {G : Type 0} (a b : ℕ) → (nat_eq a b ≡ true → a ≡ b → G) → (nat_eq a b ≡ false → a ≢ b → G) → G
by_equal a b same other =
    elim (cases_Bool (nat_eq a b)) [
      | inl equal ↦ same equal (grind (arith, nat_tests))
      | inr apart ↦ other apart (λ is. grind (arith, nat_tests))
    ]

pub nat_eq_same : (a b : ℕ) → a ≡ b → nat_eq a b ≡ true
nat_eq_same a b is = grind (arith, nat_tests)

pub nat_eq_other : (a b : ℕ) → a ≢ b → nat_eq a b ≡ false
nat_eq_other a b is = grind (arith, nat_tests)

-- no number is two others
not_both : (q a b : ℕ) → a ≢ b → q ≡ b → nat_eq q a ≡ false
not_both q a b apart is = nat_eq_other q a (λ same. apart (sym same ∙ is))

module _ {X : Type 0} where
  pub at_with_entry : (entries : List (ℕ × X)) (key : ℕ) (value : X) (q : ℕ) → entry_at (with_entry entries key value) q ≡ cond (nat_eq q key) (Some value) (entry_at entries q)
  at_with_entry [] key value q = refl
  at_with_entry (entry ∷ entries) key value q =
      by_order key entry.0
      (λ below _. rw below refl)
      (λ above equal is. by_equal q entry.0
      (λ here _. rw (above, equal, is, here) refl)
      (λ apart _. rw (above, equal, is, apart) refl))
      (λ above apart more. by_equal q entry.0
      (λ here at. rw (above, apart, not_both q key entry.0 (omega arith) at, here) refl)
      (λ other _. rw (above, apart, other) (at_with_entry entries key value q)))

  pub below_further : (low key : ℕ) (entries : List (ℕ × X)) → low < key → IsBelow key entries → IsBelow low entries
  below_further low key [] less below = tt
  below_further low key (entry ∷ entries) less below = (omega arith, below_further low key entries less below.1)

  pub below_with_entry : (low key : ℕ) (value : X) (entries : List (ℕ × X)) → low < key → IsBelow low entries → IsBelow low (with_entry entries key value)
  below_with_entry low key value [] less below = (less, tt)
  below_with_entry low key value (entry ∷ entries) less below =
      by_order key entry.0
      (λ before _. rw before (less, below))
      (λ not_before equal is. rw (not_before, equal) below)
      (λ not_before apart more. rw (not_before, apart) (below.0, below_with_entry low key value entries less below.1))

  pub rising_with_entry : (entries : List (ℕ × X)) (key : ℕ) (value : X) → AreRising entries → AreRising (with_entry entries key value)
  rising_with_entry [] key value rising = (tt, tt)
  rising_with_entry (entry ∷ entries) key value rising =
      by_order key entry.0
      (λ before less. rw before ((less, below_further key entry.0 entries less rising.0), rising))
      (λ not_before equal is. rw (not_before, equal) rising)
      (λ not_before apart more. rw (not_before, apart) (below_with_entry entry.0 key value entries more rising.0, rising_with_entry entries key value rising.1))

  pub below_without_entry : (low key : ℕ) (entries : List (ℕ × X)) → IsBelow low entries → IsBelow low (without_entry entries key)
  below_without_entry low key [] below = tt
  below_without_entry low key (entry ∷ entries) below =
      by_equal key entry.0
      (λ here _. rw here below.1)
      (λ apart _. rw apart (below.0, below_without_entry low key entries below.1))

  pub rising_without_entry : (entries : List (ℕ × X)) (key : ℕ) → AreRising entries → AreRising (without_entry entries key)
  rising_without_entry [] key rising = tt
  rising_without_entry (entry ∷ entries) key rising =
      by_equal key entry.0
      (λ here _. rw here rising.1)
      (λ apart _. rw apart (below_without_entry entry.0 key entries rising.0, rising_without_entry entries key rising.1))

  -- a key below all leads nowhere
  pub none_below : (key : ℕ) (entries : List (ℕ × X)) → IsBelow key entries → entry_at entries key ≡ None
  none_below key [] below = refl
  none_below key (entry ∷ entries) below = rw (nat_eq_other key entry.0 (omega arith)) (none_below key entries below.1)

  pub at_without_entry : (entries : List (ℕ × X)) (key q : ℕ) → AreRising entries → entry_at (without_entry entries key) q ≡ cond (nat_eq q key) None (entry_at entries q)
  at_without_entry [] key q rising = by_equal q key (λ here _. rw here refl) (λ apart _. rw apart refl)
  at_without_entry (entry ∷ entries) key q rising =
      by_equal key entry.0
      (λ here is. by_equal q entry.0
      (λ there at. rw (here, is, there) (none_below q entries (subst (λ (k : ℕ). IsBelow k entries) (sym at) rising.0)))
      (λ apart _. rw (here, is, apart) refl))
      (λ apart other. by_equal q entry.0
      (λ there at. rw (apart, there, not_both q key entry.0 other at) refl)
      (λ elsewhere _. rw (apart, elsewhere) (at_without_entry entries key q rising.1)))

  pub rising_by_key : (entries : List (ℕ × X)) → AreRising (by_key entries)
  rising_by_key [] = tt
  rising_by_key (entry ∷ entries) = rising_with_entry (by_key entries) entry.0 entry.1 (rising_by_key entries)

  pub at_by_key : (entries : List (ℕ × X)) (q : ℕ) → entry_at (by_key entries) q ≡ entry_at entries q
  at_by_key [] q = refl
  at_by_key (entry ∷ entries) q = at_with_entry (by_key entries) entry.0 entry.1 q ∙ ap (λ (o : Option X). cond (nat_eq q entry.0) (Some entry.1) o) (at_by_key entries q)

  not_missing : (value : X) → Some value ≡ None → ⊥
  not_missing value is = cc

  -- a map has one list of entries by rising key
  pub one_list : (entries others : List (ℕ × X)) → AreRising entries → AreRising others → ((q : ℕ) → entry_at entries q ≡ entry_at others q) → entries ≡ others
  one_list [] [] rising rising' same = refl
  one_list [] (other ∷ others) rising rising' same =
      absurd (not_missing other.1 (sym (same other.0 ∙ rw (nat_eq_same other.0 other.0 refl) refl)))
  one_list (entry ∷ entries) [] rising rising' same =
      absurd (not_missing entry.1 (sym (rw (nat_eq_same entry.0 entry.0 refl) refl) ∙ same entry.0))
  one_list (entry ∷ entries) (other ∷ others) rising rising' same =
      let here : (e : ℕ × X) (es : List (ℕ × X)) → entry_at (e ∷ es) e.0 ≡ Some e.1 = λ e es. rw (nat_eq_same e.0 e.0 refl) refl in
      by_order entry.0 other.0
      (λ _ less. absurd (not_missing entry.1 (sym (here entry entries) ∙ (same entry.0 ∙ none_below entry.0 (other ∷ others) (less, below_further entry.0 other.0 others less rising'.0)))))
      (λ _ _ is.
      let value : Some entry.1 ≡ Some other.1 = sym (here entry entries) ∙ (same entry.0 ∙ (ap (entry_at (other ∷ others)) is ∙ here other others)) in
      let first : entry ≡ other = ap₂ (λ (k : ℕ) (v : X). (k, v)) is cc in
      let rest = one_list entries others rising.1 rising'.1 (λ q. by_equal q entry.0
      (λ _ at. none_below q entries (subst (λ (k : ℕ). IsBelow k entries) (sym at) rising.0) ∙ sym (none_below q others (subst (λ (k : ℕ). IsBelow k others) (sym (at ∙ is)) rising'.0)))
      (λ apart other_key. sym (rw apart refl) ∙ (same q ∙ rw (nat_eq_other q other.0 (λ at. other_key (at ∙ sym is))) refl))) in
      ap₂ (λ (e : ℕ × X) (es : List (ℕ × X)). e ∷ es) first rest)
      (λ _ _ more. absurd (not_missing other.1 (sym (here other others) ∙ (sym (same other.0) ∙ none_below other.0 (entry ∷ entries) (more, below_further other.0 entry.0 entries more rising.0)))))
