-- A new stamp of a hand: the stamps of its number are counted one further.
use Rattle.std.proofs.Common.{◌≡◌, ◌≢◌, ℕ, ◌+◌, ◌*◌, ◌/◌, ◌%◌, ◌^◌, ◌<◌, ◌==◌, ◌&&◌, Bool, true, false, List, [], ◌∷◌, ◌++◌, length, Option, Some, None, refl, sym, ap, ◌∙◌, subst, slice_set, slice_index_or, nat_le, All, inl, inr, arith, add-zero, zero-add, eq-eqb, ne_eqb, le-leb, leb-true, get_or-set_same, get_or-set_other}
use Rattle.std.proofs.lemmas.Bool.{cases_eq, cases_lt, cases_Bool}
use Rattle.std.proofs.lemmas.List.Elements.{All-push, All-weaker}
use Rattle.std.proofs.lemmas.List.Sums.{sum_by-append}
use Rattle.mc_pages.specs.Accounted.{truth}
use Rattle.mc_core.specs.declared.ids.Ids.{Ids}
use Rattle.mc_core.specs.model.State.{no_ids}
use Rattle.mc_core.specs.run.Items.{most_stamps, is_next_stamp, ids_after_stamp}
use Rattle.mc_core.specs.past.Past.{Own, StoredItem, KnownItem, with_more}
use Rattle.mc_core.specs.law.Identities.{count_in_hand, number_in, stamps_given, stored_times, AreCountedTo, AreNumbered}
use Rattle.mc_core.proofs.Histories.LinkKinds.{next_parts}
use Rattle.mc_core.proofs.Hands.MoreRows.{row_of, row_same, row_other}

-- one more saying counts for its stamp
pub times_push : (stamp : ℕ) (row : List StoredItem) (s : StoredItem) → stored_times stamp (row ++ s ∷ []) ≡ stored_times stamp row + truth (s.stamp == stamp)
times_push stamp row s = sum_by-append (λ (x : StoredItem). truth (x.stamp == stamp)) row (s ∷ []) ∙ ap (λ n. stored_times stamp row + n) (zero-add _)

-- a count further
counted_further : (number most count : ℕ) (row : List StoredItem) (s : StoredItem) → s.stamp ≡ number * 2 ^ 48 + (most + 1) → count < 2 ^ 48 → stored_times (number * 2 ^ 48 + count) row ≡ truth (nat_le 1 count && nat_le count most)
    → stored_times (number * 2 ^ 48 + count) (row ++ s ∷ []) ≡ truth (nat_le 1 count && nat_le count (most + 1))
counted_further number most count row s is small old =
    let push = times_push (number * 2 ^ 48 + count) row s in
    elim (cases_eq count (most + 1)) [
      | inl same ↦
          let now : truth (s.stamp == number * 2 ^ 48 + count) ≡ 1 = ap truth (eq-eqb s.stamp (number * 2 ^ 48 + count) (is ∙ ap (λ n. number * 2 ^ 48 + n) (sym same))) in
          let before : nat_le count most ≡ false = leb-over count most (omega arith) in
          let none : truth (nat_le 1 count && nat_le count most) ≡ 0 = rw before (both_false (nat_le 1 count)) in
          let first : nat_le 1 count ≡ true = le-leb 1 count (omega arith) in
          let last : nat_le count (most + 1) ≡ true = le-leb count (most + 1) (omega arith) in
          let one : truth (nat_le 1 count && nat_le count (most + 1)) ≡ 1 = rw (first, last) refl in
          omega arith
      | inr other ↦
          let now : truth (s.stamp == number * 2 ^ 48 + count) ≡ 0 = ap truth (ne_eqb s.stamp (number * 2 ^ 48 + count) (λ e. other (omega (arith, e, is)))) in
          let same : nat_le count (most + 1) ≡ nat_le count most = same_le count most other in
          let both : truth (nat_le 1 count && nat_le count (most + 1)) ≡ truth (nat_le 1 count && nat_le count most) = rw same refl in
          omega arith
    ]
  where
    leb-over : (a b : ℕ) → b < a → nat_le a b ≡ false
    leb-over a b over = elim (cases_Bool (nat_le a b)) [ inl is_le ↦ absurd (omega (arith, over, leb-true a b is_le)) | inr not_le ↦ not_le ]

    both_false : (b : Bool) → truth (b && false) ≡ 0
    both_false true = refl
    both_false false = refl

    same_le : (a b : ℕ) → a ≢ b + 1 → nat_le a (b + 1) ≡ nat_le a b
    same_le a b apart =
        elim (cases_lt b a) [
          | inl over ↦ leb-over a (b + 1) (omega arith) ∙ sym (leb-over a b over)
          | inr under ↦ le-leb a (b + 1) (omega arith) ∙ sym (le-leb a b under)
        ]

-- a saying of another number doesn't count
counted_else : (number count : ℕ) (row : List StoredItem) (s : StoredItem) → s.stamp / 2 ^ 48 ≢ number → count < 2 ^ 48 → stored_times (number * 2 ^ 48 + count) (row ++ s ∷ []) ≡ stored_times (number * 2 ^ 48 + count) row
counted_else number count row s apart small =
    times_push (number * 2 ^ 48 + count) row s
    ∙ ap (λ n. stored_times (number * 2 ^ 48 + count) row + n) (ap truth (ne_eqb s.stamp (number * 2 ^ 48 + count) (λ e. apart (omega (arith, e)))))
    ∙ add-zero _

some_same : (a b : ℕ) → ◌≡◌ {A = Option ℕ} (Some a) (Some b) → a ≡ b
some_same a b e = cc

some_none : (o : Option ℕ) (n : ℕ) → o ≡ Some n → o ≡ None → ⊥
some_none None n is none = absurd (cc)
some_none (Some x) n is none = absurd (cc)

module _ (ids : List Ids) (mine : List (List Own)) (said : List (List StoredItem)) (known known' : List (List KnownItem)) (hand : ℕ) (s : StoredItem) (l : AreNumbered ids mine said known)
    (next : is_next_stamp (slice_index_or ids hand no_ids) s.stamp ≡ true) (within : hand < length ids) (said_rows : hand < length said) (knows : (other : ℕ) → other ≢ hand → row_of known' other ≡ row_of known other) where
  abbrev number : ℕ
  number = s.stamp / 2 ^ 48

  abbrev ids' : List Ids
  ids' = slice_set ids hand (ids_after_stamp (slice_index_or ids hand no_ids))

  abbrev said' : List (List StoredItem)
  said' = with_more said hand (s ∷ [])

  parts : (stamps_given ids hand < most_stamps) × (number_in ids hand ≡ Some number) × (s.stamp % 2 ^ 48 ≡ stamps_given ids hand + 1)
  parts = next_parts (slice_index_or ids hand no_ids) s.stamp next

  stamp_is : s.stamp ≡ number * 2 ^ 48 + (stamps_given ids hand + 1)
  stamp_is = let last = parts.2 in omega arith

  here : row_of said' hand ≡ row_of said hand ++ s ∷ []
  here = row_same said hand (row_of said hand ++ s ∷ []) said_rows

  else : (other : ℕ) → other ≢ hand → row_of said' other ≡ row_of said other
  else other apart = row_other said hand other (row_of said hand ++ s ∷ []) apart

  numbers : (other : ℕ) → number_in ids' other ≡ number_in ids other
  numbers other = elim (cases_eq other hand) [
    | inl same ↦ subst (λ h. number_in ids' h ≡ number_in ids h) (sym same) (ap (λ (i : Ids). i.number) (get_or-set_same ids hand (ids_after_stamp (slice_index_or ids hand no_ids)) no_ids within))
    | inr apart ↦ ap (λ (i : Ids). i.number) (get_or-set_other ids hand other (ids_after_stamp (slice_index_or ids hand no_ids)) no_ids apart)
  ]

  -- the counts of the hand's own number
  own_stamps : AreCountedTo (stamps_given ids' hand) number (row_of said' hand)
  own_stamps count small =
      let stamps : stamps_given ids' hand ≡ stamps_given ids hand + 1 = ap (λ (i : Ids). i.stamps) (get_or-set_same ids hand (ids_after_stamp (slice_index_or ids hand no_ids)) no_ids within) in
      rw (here, stamps) (counted_further number (stamps_given ids hand) count (row_of said hand) s stamp_is small (l.stamps hand number parts.1 count small))

  -- the counts of a number in a row
  in_row : (other : Own) → ((most : ℕ) × AreCountedTo most other.number (row_of said hand)) → (most : ℕ) × AreCountedTo most other.number (row_of said' hand)
  in_row other (most, counted) = elim (cases_eq (s.stamp / 2 ^ 48) other.number) [
    | inl same ↦ (stamps_given ids' hand, subst (λ n. AreCountedTo (stamps_given ids' hand) n (row_of said' hand)) same own_stamps)
    | inr apart ↦ (most, λ count small. ap (stored_times (other.number * 2 ^ 48 + count)) here ∙ counted_else other.number count (row_of said hand) s apart small ∙ counted count small)
  ]

  pub numbered_said : AreNumbered ids' mine said' known'
  numbered_said = record {
    apart = l.apart;
    own = λ other n is. l.own other n (sym (numbers other) ∙ is);
    stamps = λ other n is. elim (cases_eq other hand) [
      | inl same ↦
          let at_hand : number_in ids hand ≡ Some n = ap (number_in ids) (sym same) ∙ (sym (numbers other) ∙ is) in
          let n_is : number ≡ n = some_same number n (sym parts.1 ∙ at_hand) in
          subst (λ h. AreCountedTo (stamps_given ids' h) n (row_of said' h)) (sym same) (subst (λ k. AreCountedTo (stamps_given ids' hand) k (row_of said' hand)) n_is own_stamps)
      | inr apart ↦
          let stamps : stamps_given ids' other ≡ stamps_given ids other = ap (λ (i : Ids). i.stamps) (get_or-set_other ids hand other (ids_after_stamp (slice_index_or ids hand no_ids)) no_ids apart) in
          λ count small. rw (else other apart, stamps) (l.stamps other n (sym (numbers other) ∙ is) count small)
    ];
    gapless = λ other. elim (cases_eq other hand) [
      | inl same ↦ subst (λ h. All (λ (own : Own). (most : ℕ) × AreCountedTo most own.number (row_of said' h)) (row_of mine h)) (sym same)
          (All-weaker (λ (own : Own). (most : ℕ) × AreCountedTo most own.number (row_of said hand)) (λ (own : Own). (most : ℕ) × AreCountedTo most own.number (row_of said' hand)) in_row (row_of mine hand) (l.gapless hand))
      | inr apart ↦ subst (λ (row : List StoredItem). All (λ (own : Own). (most : ℕ) × AreCountedTo most own.number row) (row_of mine other)) (sym (else other apart)) (l.gapless other)
    ];
    of_own = λ other. elim (cases_eq other hand) [
      | inl same ↦ subst (λ h. All (λ (x : StoredItem). count_in_hand (x.stamp / 2 ^ 48) (row_of mine h) ≡ 1) (row_of said' h)) (sym same)
          (subst (All (λ (x : StoredItem). count_in_hand (x.stamp / 2 ^ 48) (row_of mine hand) ≡ 1)) (sym here)
          (All-push (λ (x : StoredItem). count_in_hand (x.stamp / 2 ^ 48) (row_of mine hand) ≡ 1) (row_of said hand) s (l.of_own hand) (l.own hand number parts.1)))
      | inr apart ↦ subst (All (λ (x : StoredItem). count_in_hand (x.stamp / 2 ^ 48) (row_of mine other) ≡ 1)) (sym (else other apart)) (l.of_own other)
    ];
    nothing = λ other none.
        let old = l.nothing other (sym (numbers other) ∙ none) in
        let apart : other ≢ hand = λ same. some_none (number_in ids hand) (s.stamp / 2 ^ 48) parts.1 (ap (number_in ids) (sym same) ∙ (sym (numbers other) ∙ none)) in
        (old.0, else other apart ∙ old.1, knows other apart ∙ old.2);
  }
