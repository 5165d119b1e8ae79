-- Two hands become one: the first has the numbers and stamps of both.
use Rattle.std.proofs.Common.{◌≡◌, ◌≢◌, ℕ, ◌+◌, ◌*◌, ◌/◌, ◌^◌, ◌<◌, ◌≤◌, ◌==◌, true, List, [], ◌++◌, length, Option, Some, None, refl, sym, ap, ◌∙◌, subst, slice_set, slice_index_or, is_some, All, inl, inr, arith, add-zero, zero-add, eq-eqb, Contains, get_or-set_other, length-set}
use Rattle.std.proofs.lemmas.Bool.{cases_eq}
use Rattle.std.proofs.lemmas.List.Elements.{All-nil, All-append, All-weaker, All-contains_itself, All-contains}
use Rattle.std.proofs.lemmas.List.Sums.{sum_by-append, get_or-le-sum_by}
use Rattle.mc_pages.specs.Accounted.{truth}
use Rattle.mc_core.specs.declared.ids.Ids.{Ids}
use Rattle.mc_core.specs.model.State.{no_ids}
use Rattle.mc_core.specs.past.Past.{Own, StoredItem, KnownItem, with_more}
use Rattle.mc_core.specs.law.Identities.{count_in_hand, count_in_hands, number_in, stamps_given, stored_times, AreCountedTo, AreNumbered}
use Rattle.mc_core.proofs.Hands.HandsSteps.{gone_set}
use Rattle.mc_core.proofs.Hands.MoreRows.{row_of, row_same, row_other, joined_rows}
use Rattle.mc_core.proofs.Counts.Totals.{total_two, total_joined, owned_total}
use Rattle.mc_core.proofs.Histories.SaidOnce.{times_none}

module _ {X : Type 0} (rows : List (List X)) (kept spent : ℕ) (apart : kept ≢ spent) where
  -- the rows after two hands became one
  pub row_kept : kept < length rows → row_of (joined_rows rows kept spent) kept ≡ row_of rows kept ++ row_of rows spent
  row_kept within = row_other (with_more rows kept (row_of rows spent)) spent kept [] apart ∙ row_same rows kept (row_of rows kept ++ row_of rows spent) within

  pub row_spent : spent < length rows → row_of (joined_rows rows kept spent) spent ≡ []
  row_spent within = row_same (with_more rows kept (row_of rows spent)) spent [] (omega (arith, within, length-set rows kept (row_of rows kept ++ row_of rows spent)))

  pub row_else : (other : ℕ) → other ≢ kept → other ≢ spent → row_of (joined_rows rows kept spent) other ≡ row_of rows other
  row_else other not_kept not_spent =
      row_other (with_more rows kept (row_of rows spent)) spent other [] not_spent ∙ row_other rows kept other (row_of rows kept ++ row_of rows spent) not_kept

-- a number of the row counts
pub own_counts : (row : List Own) (own : Own) → Contains row own → 1 ≤ count_in_hand own.number row
own_counts row own (k, within, at) =
    let here : truth ((slice_index_or row k own).number == own.number) ≡ 1 = ap (λ (o : Own). truth (o.number == own.number)) at ∙ ap truth (eq-eqb own.number own.number refl) in
    omega (arith, get_or-le-sum_by (λ (o : Own). truth (o.number == own.number)) row k own within, here)

owns_both : (number : ℕ) (a b : List Own) → count_in_hand number (a ++ b) ≡ count_in_hand number a + count_in_hand number b
owns_both number a b = sum_by-append (λ (own : Own). truth (own.number == number)) a b

said_both : (stamp : ℕ) (a b : List StoredItem) → stored_times stamp (a ++ b) ≡ stored_times stamp a + stored_times stamp b
said_both stamp a b = sum_by-append (λ (s : StoredItem). truth (s.stamp == stamp)) a b

-- a hand without the number said no stamp of it
stores_nothing : (number count : ℕ) (own : List Own) (row : List StoredItem) → All (λ (s : StoredItem). count_in_hand (s.stamp / 2 ^ 48) own ≡ 1) row → count_in_hand number own ≡ 0 → count < 2 ^ 48 → stored_times (number * 2 ^ 48 + count) row ≡ 0
stores_nothing number count own row all none small =
    times_none (number * 2 ^ 48 + count) row (All-weaker (λ (s : StoredItem). count_in_hand (s.stamp / 2 ^ 48) own ≡ 1) (λ (s : StoredItem). s.stamp ≡ number * 2 ^ 48 + count → ⊥)
    (λ s one is. let same : s.stamp / 2 ^ 48 ≡ number = omega arith in let here : count_in_hand number own ≡ 1 = subst (λ n. count_in_hand n own ≡ 1) same one in omega arith) row all)

some_none : (o : Option ℕ) → is_some o ≡ true → o ≡ None → ⊥
some_none None is none = absurd (cc)
some_none (Some n) is none = absurd (cc)

module _ (ids : List Ids) (mine : List (List Own)) (said : List (List StoredItem)) (known : List (List KnownItem)) (kept spent : ℕ) (l : AreNumbered ids mine said known) (apart : kept ≢ spent)
    (there : is_some (number_in ids kept) ≡ true) (own_rows : (kept < length mine) × (spent < length mine)) (said_rows : (kept < length said) × (spent < length said)) (known_rows : spent < length known) where
  abbrev mine' : List (List Own)
  mine' = joined_rows mine kept spent

  abbrev said' : List (List StoredItem)
  said' = joined_rows said kept spent

  -- no number is of both
  one_of : (number : ℕ) → count_in_hand number (row_of mine kept) + count_in_hand number (row_of mine spent) ≤ 1
  one_of number =
      let two = total_two (count_in_hand number) mine kept spent refl apart in
      let all = owned_total number mine in
      let most = l.apart number in omega arith

  owners_joined : (number : ℕ) → count_in_hands number mine' ≡ count_in_hands number mine
  owners_joined number = owned_total number mine' ∙ (total_joined (λ (own : Own). truth (own.number == number)) mine kept spent apart own_rows.0 own_rows.1 ∙ sym (owned_total number mine))

  old_number : (hand number : ℕ) → number_in (slice_set ids spent no_ids) hand ≡ Some number → (hand ≢ spent) × (number_in ids hand ≡ Some number)
  old_number hand number is = gone_set ids spent hand number is

  -- the number is the kept hand's
  kept_owns : (number : ℕ) → count_in_hand number (row_of mine kept) ≡ 1 → count_in_hand number (row_of mine' kept) ≡ 1
  kept_owns number one = let both = one_of number in rw (row_kept mine kept spent apart own_rows.0, owns_both number (row_of mine kept) (row_of mine spent)) (omega arith)

  spent_owns : (number : ℕ) → count_in_hand number (row_of mine spent) ≡ 1 → count_in_hand number (row_of mine' kept) ≡ 1
  spent_owns number one = let both = one_of number in rw (row_kept mine kept spent apart own_rows.0, owns_both number (row_of mine kept) (row_of mine spent)) (omega arith)

  -- the kept hand's count of its own number
  kept_counts : (number most : ℕ) → count_in_hand number (row_of mine spent) ≡ 0 → AreCountedTo most number (row_of said kept) → AreCountedTo most number (row_of said' kept)
  kept_counts number most none counted count small =
      let rest = stores_nothing number count (row_of mine spent) (row_of said spent) (l.of_own spent) none small in
      rw (row_kept said kept spent apart said_rows.0) (said_both (number * 2 ^ 48 + count) (row_of said kept) (row_of said spent) ∙ rw rest (add-zero _ ∙ counted count small))

  spent_counts : (number most : ℕ) → count_in_hand number (row_of mine kept) ≡ 0 → AreCountedTo most number (row_of said spent) → AreCountedTo most number (row_of said' kept)
  spent_counts number most none counted count small =
      let rest = stores_nothing number count (row_of mine kept) (row_of said kept) (l.of_own kept) none small in
      rw (row_kept said kept spent apart said_rows.0) (said_both (number * 2 ^ 48 + count) (row_of said kept) (row_of said spent) ∙ rw rest (zero-add _ ∙ counted count small))

  abbrev Gapless : List StoredItem → Own → Type 0
  Gapless row own = (most : ℕ) × AreCountedTo most own.number row

  gapless_kept : All (Gapless (row_of said' kept)) (row_of mine' kept)
  gapless_kept = subst (All (Gapless (row_of said' kept))) (sym (row_kept mine kept spent apart own_rows.0)) (All-append (Gapless (row_of said' kept)) (row_of mine kept) (row_of mine spent)
      (All-weaker (Contains (row_of mine kept)) (Gapless (row_of said' kept)) (λ own among.
      let some = own_counts (row_of mine kept) own among in let both = one_of own.number in
      let old = All-contains (Gapless (row_of said kept)) (row_of mine kept) own (l.gapless kept) among in
      (old.0, kept_counts own.number old.0 (omega arith) old.1)) (row_of mine kept) (All-contains_itself (row_of mine kept)))
      (All-weaker (Contains (row_of mine spent)) (Gapless (row_of said' kept)) (λ own among.
      let some = own_counts (row_of mine spent) own among in let both = one_of own.number in
      let old = All-contains (Gapless (row_of said spent)) (row_of mine spent) own (l.gapless spent) among in
      (old.0, spent_counts own.number old.0 (omega arith) old.1)) (row_of mine spent) (All-contains_itself (row_of mine spent))))

  abbrev Owned : List Own → StoredItem → Type 0
  Owned row s = count_in_hand (s.stamp / 2 ^ 48) row ≡ 1

  of_own_kept : All (Owned (row_of mine' kept)) (row_of said' kept)
  of_own_kept = subst (All (Owned (row_of mine' kept))) (sym (row_kept said kept spent apart said_rows.0)) (All-append (Owned (row_of mine' kept)) (row_of said kept) (row_of said spent)
      (All-weaker (Owned (row_of mine kept)) (Owned (row_of mine' kept)) (λ s one. kept_owns (s.stamp / 2 ^ 48) one) (row_of said kept) (l.of_own kept))
      (All-weaker (Owned (row_of mine spent)) (Owned (row_of mine' kept)) (λ s one. spent_owns (s.stamp / 2 ^ 48) one) (row_of said spent) (l.of_own spent)))

  -- by which of the hands it is
  by_hand : (P : ℕ → Type 0) → P kept → P spent → ((other : ℕ) → other ≢ kept → other ≢ spent → P other) → (hand : ℕ) → P hand
  by_hand P at_kept at_spent else hand = elim (cases_eq hand kept) [
    | inl is_kept ↦ subst P (sym is_kept) at_kept
    | inr not_kept ↦ elim (cases_eq hand spent) [ inl is_spent ↦ subst P (sym is_spent) at_spent | inr not_spent ↦ else hand not_kept not_spent ]
  ]

  pub numbered_joined : AreNumbered (slice_set ids spent no_ids) mine' said' (joined_rows known kept spent)
  numbered_joined = record {
    apart = λ number. rw (owners_joined number) (l.apart number);
    own = λ hand number is. let old = old_number hand number is in
        elim (cases_eq hand kept) [
          | inl same ↦ subst (λ h. count_in_hand number (row_of mine' h) ≡ 1) (sym same) (kept_owns number (subst (λ h. count_in_hand number (row_of mine h) ≡ 1) same (l.own hand number old.1)))
          | inr differs ↦ rw (row_else mine kept spent apart hand differs old.0) (l.own hand number old.1)
        ];
    stamps = λ hand number is. let old = old_number hand number is in
        let stamps : stamps_given (slice_set ids spent no_ids) hand ≡ stamps_given ids hand = ap (λ (i : Ids). i.stamps) (get_or-set_other ids spent hand no_ids no_ids old.0) in
        subst (λ n. AreCountedTo n number (row_of said' hand)) (sym stamps) (elim (cases_eq hand kept) [
          | inl same ↦
              let one : count_in_hand number (row_of mine kept) ≡ 1 = subst (λ h. count_in_hand number (row_of mine h) ≡ 1) same (l.own hand number old.1) in
              let both = one_of number in
              let counted : AreCountedTo (stamps_given ids hand) number (row_of said kept) = subst (λ h. AreCountedTo (stamps_given ids hand) number (row_of said h)) same (l.stamps hand number old.1) in
              subst (λ h. AreCountedTo (stamps_given ids hand) number (row_of said' h)) (sym same) (kept_counts number (stamps_given ids hand) (omega arith) counted)
          | inr differs ↦ subst (AreCountedTo (stamps_given ids hand) number) (sym (row_else said kept spent apart hand differs old.0)) (l.stamps hand number old.1)
        ]);
    gapless = by_hand (λ hand. All (Gapless (row_of said' hand)) (row_of mine' hand)) gapless_kept
        (subst (All (Gapless (row_of said' spent))) (sym (row_spent mine kept spent apart own_rows.1)) (All-nil (Gapless (row_of said' spent))))
        (λ other not_kept not_spent. rw (row_else mine kept spent apart other not_kept not_spent, row_else said kept spent apart other not_kept not_spent) (l.gapless other));
    of_own = by_hand (λ hand. All (Owned (row_of mine' hand)) (row_of said' hand)) of_own_kept
        (subst (All (Owned (row_of mine' spent))) (sym (row_spent said kept spent apart said_rows.1)) (All-nil (Owned (row_of mine' spent))))
        (λ other not_kept not_spent. rw (row_else mine kept spent apart other not_kept not_spent, row_else said kept spent apart other not_kept not_spent) (l.of_own other));
    nothing = λ hand none. elim (cases_eq hand spent) [
      | inl same ↦ subst (λ h. (row_of mine' h ≡ []) × (row_of said' h ≡ []) × (row_of (joined_rows known kept spent) h ≡ [])) (sym same)
          (row_spent mine kept spent apart own_rows.1, row_spent said kept spent apart said_rows.1, row_spent known kept spent apart known_rows)
      | inr differs ↦
          let was : number_in ids hand ≡ None = sym (ap (λ (i : Ids). i.number) (get_or-set_other ids spent hand no_ids no_ids differs)) ∙ none in
          let not_kept : hand ≢ kept = λ same. some_none (number_in ids kept) there (ap (number_in ids) (sym same) ∙ was) in
          let old = l.nothing hand was in
          (row_else mine kept spent apart hand not_kept differs ∙ old.0, row_else said kept spent apart hand not_kept differs ∙ old.1, row_else known kept spent apart hand not_kept differs ∙ old.2)
    ];
  }
