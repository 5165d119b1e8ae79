-- In the first moment each hand has its number, and nothing was said or done.
use Rattle.std.proofs.Common.{◌≡◌, ℕ, zero, suc, ◌+◌, ◌/◌, ◌^◌, ◌<◌, ◌≤◌, ◌==◌, ◌&&◌, List, [], ◌∷◌, length, map, replicate, get_or, Option, Some, None, refl, sym, ap, ◌∙◌, subst, slice_get, nat_le, ◌++◌, Contains, All, inl, inr, arith, zero-add, eq-eqb, ne_eqb}
use Rattle.std.specs.List.{range_with_len}
use Rattle.std.proofs.lemmas.Bool.{cases_lt, cases_eq, and_right, lt-leb}
use Rattle.std.proofs.lemmas.List.{get_or_past, get_or-replicate, length-replicate}
use Rattle.std.proofs.lemmas.List.FromFn.{get_or-map-range_with_len, length-map-range_with_len}
use Rattle.std.proofs.lemmas.List.Elements.{All-nil, All-cons, All-replicate, All-weaker, All-contains_itself}
use Rattle.mc_pages.specs.Accounted.{truth}
use Rattle.mc_stripe.specs.declared.history.Call.{Call}
use Rattle.mc_stripe.specs.StripeState.{ReadyStripe, new_stripe}
use Rattle.mc_core.specs.declared.ids.Ids.{Ids}
use Rattle.mc_core.specs.model.State.{no_ids}
use Rattle.mc_core.specs.past.Past.{Own, StoredItem}
use Rattle.mc_core.specs.model.Columns.{Each}
use Rattle.mc_core.specs.law.Identities.{IsFreeOrHeld, count_in_hand, count_in_hands, number_in, stamps_given, stored_count, AreCountedTo}
use Rattle.mc_core.specs.law.Histories.{hand_of, set_count, IsSetIn, IsStored}
use Rattle.mc_core.specs.law.Lawful.{HandsIn, NumberedIn, RecordedIn}
use Rattle.mc_core.specs.law.Laws.{HoldsAtFirst}
use Rattle.mc_core.proofs.Histories.Grown.{calls_in}
use Rattle.mc_core.proofs.Hands.MoreRows.{row_of}
use Rattle.mc_core.proofs.Histories.ToldKept.{IsBegun, IsOwnIn}

-- an entry of equal ones
pub same_entry : {X : Type 0} (n i : ℕ) (x : X) → get_or (replicate n x) i x ≡ x
same_entry n i x = elim (cases_lt i n) [
  | inl within ↦ get_or-replicate n i x x within
  | inr past ↦ get_or_past (replicate n x) i x (subst (λ k. k ≤ i) (sym (length-replicate n x)) past)
]

module _ (hands : ℕ) where
  abbrev named : ℕ → Ids
  named number = record { number = Some number; stamps = 0 }

  abbrev ids : List Ids
  ids = map named (range_with_len 0 hands)

  -- a hand is one of the first, and its place is its number
  hand_is : (hand number : ℕ) → number_in ids hand ≡ Some number → (hand < hands) × (number ≡ hand)
  hand_is hand number is = elim (cases_lt hand hands) [
    | inl within ↦ let same : Some hand ≡ Some number = sym (ap (λ (i : Ids). i.number) (get_or-map-range_with_len named 0 hands hand hand no_ids within (zero-add hand))) ∙ is in
        (within, some_same number hand (sym same))
    | inr past ↦ absurd (none_some number (sym (ap (λ (i : Ids). i.number) (get_or_past ids hand no_ids (subst (λ k. k ≤ hand) (sym (length-map-range_with_len named 0 hands)) past))) ∙ is))
  ]
    where
      some_same : (a b : ℕ) → ◌≡◌ {A = Option ℕ} (Some a) (Some b) → a ≡ b
      some_same a b e = cc

      none_some : (n : ℕ) → ◌≡◌ {A = Option ℕ} None (Some n) → ⊥
      none_some n e = cc

  no_hand : (hand : ℕ) → number_in ids hand ≡ None → hands ≤ hand
  no_hand hand none = elim (cases_lt hand hands) [
    | inl within ↦ absurd (some_none hand (sym (ap (λ (i : Ids). i.number) (get_or-map-range_with_len named 0 hands hand hand no_ids within (zero-add hand))) ∙ none))
    | inr past ↦ past
  ]
    where
      some_none : (n : ℕ) → ◌≡◌ {A = Option ℕ} (Some n) None → ⊥
      some_none n e = cc

  no_stamps : (hand : ℕ) → stamps_given ids hand ≡ 0
  no_stamps hand = elim (cases_lt hand hands) [
    | inl within ↦ ap (λ (i : Ids). i.stamps) (get_or-map-range_with_len named 0 hands hand hand no_ids within (zero-add hand))
    | inr past ↦ ap (λ (i : Ids). i.stamps) (get_or_past ids hand no_ids (subst (λ k. k ≤ hand) (sym (length-map-range_with_len named 0 hands)) past))
  ]

  module _ (stripes : ℕ) where
    abbrev own_of : ℕ → Own
    own_of number = record { number = number; calls = replicate stripes [] }

    abbrev mine_from : ℕ → ℕ → List (List Own)
    mine_from first count = map (λ number. own_of number ∷ []) (range_with_len first count)

    abbrev mine : List (List Own)
    mine = mine_from 0 hands

    owns_one : (number own : ℕ) → count_in_hand number (own_of own ∷ []) ≡ truth (own == number)
    owns_one number own = zero-add _

    -- a number is in one row at most
    owners_from : (number first count : ℕ) → (count_in_hands number (mine_from first count) ≤ 1) × (number < first → count_in_hands number (mine_from first count) ≡ 0)
    owners_from number first zero = (omega arith, λ below. refl)
    owners_from number first (suc count) =
        let rest = owners_from number (first + 1) count in
        elim (cases_eq first number) [
          | inl same ↦
              let one : count_in_hand number (own_of first ∷ []) ≡ 1 = zero-add _ ∙ ap truth (eq-eqb first number same) in
              let none = rest.1 (omega (arith, same)) in
              (omega (arith, one, none), λ below. absurd (omega (arith, same, below)))
          | inr apart ↦
              let zero_is : count_in_hand number (own_of first ∷ []) ≡ 0 = zero-add _ ∙ ap truth (ne_eqb first number apart) in
              (omega (arith, zero_is, rest.0), λ below. let none = rest.1 (omega (arith, below)) in omega (arith, zero_is, none))
        ]

    own_row : (hand : ℕ) → hand < hands → row_of mine hand ≡ own_of hand ∷ []
    own_row hand within = get_or-map-range_with_len (λ number. own_of number ∷ []) 0 hands hand hand [] within (zero-add hand)

    past_row : (hand : ℕ) → hands ≤ hand → row_of mine hand ≡ []
    past_row hand past = get_or_past mine hand [] (subst (λ k. k ≤ hand) (sym (length-map-range_with_len (λ number. own_of number ∷ []) 0 hands)) past)

  -- no stamp was said
  none_counted : (number : ℕ) (row : List StoredItem) → row ≡ [] → AreCountedTo 0 number row
  none_counted number row none count small = rw none (sym (none_between count))
    where
      none_between : (count : ℕ) → truth (nat_le 1 count && nat_le count 0) ≡ 0
      none_between zero = refl
      none_between (suc count) = ap truth (and_right (nat_le 1 (suc count)) (nat_le (suc count) 0) (lt-leb (suc count) 0 (omega arith)))

pub hands_first : HoldsAtFirst HandsIn
hands_first table stripes hands start sound _ some most _ =
    let long = length-map-range_with_len (named hands) 0 hands in
    record {
      count = (omega (arith, some, long), omega (arith, most, long));
      holding_rows = length-replicate hands [] ∙ sym long;
      look_rows = length-replicate hands [] ∙ sym long;
      numbers = λ hand number is. let at = hand_is hands hand number is in omega (arith, at.0, at.1, most);
      apart = λ a b number at_a at_b. sym (hand_is hands a number at_a).1 ∙ (hand_is hands b number at_b).1;
      stamps = λ hand. rw (no_stamps hands hand) (omega arith);
      slabs = inl refl;
      stripes = All-replicate (IsFreeOrHeld (ids hands)) stripes 0 (inl refl);
      nothing = λ hand none. same_entry hands hand [];
    }

pub numbered_first : HoldsAtFirst NumberedIn
numbered_first table stripes hands start sound _ _ _ _ =
    let said_row : (hand : ℕ) → row_of (replicate hands []) hand ≡ [] = λ hand. same_entry hands hand [] in
    record {
      apart = λ number. (owners_from hands stripes number 0 hands).0;
      own = λ hand number is. let at = hand_is hands hand number is in rw (own_row hands stripes hand at.0) (zero-add _ ∙ ap truth (eq-eqb hand number (sym at.1)));
      stamps = λ hand number is. subst (λ n. AreCountedTo n number (row_of (replicate hands []) hand)) (sym (no_stamps hands hand)) (none_counted hands number (row_of (replicate hands []) hand) (said_row hand));
      gapless = λ hand. All-weaker (Contains (row_of (mine hands stripes) hand)) (λ (own : Own). (most : ℕ) × AreCountedTo most own.number (row_of (replicate hands []) hand))
          (λ own among. (0, none_counted hands own.number (row_of (replicate hands []) hand) (said_row hand))) (row_of (mine hands stripes) hand) (All-contains_itself (row_of (mine hands stripes) hand));
      of_own = λ hand. subst (All (λ (s : StoredItem). count_in_hand (s.stamp / 2 ^ 48) (row_of (mine hands stripes) hand) ≡ 1)) (sym (said_row hand)) (All-nil (λ (s : StoredItem). count_in_hand (s.stamp / 2 ^ 48) (row_of (mine hands stripes) hand) ≡ 1));
      nothing = λ hand none. (past_row hands stripes hand (no_hand hands hand none), said_row hand, same_entry hands hand []);
    }

-- nobody called anything
no_calls : (number stripes : ℕ) → replicate stripes [] ≡ calls_in number (replicate stripes new_stripe)
no_calls number zero = refl
no_calls number (suc stripes) = ap (λ (rows : List (List Call)). [] ∷ rows) (no_calls number stripes)

-- the rows of the first hands
own_first : (stripes first count : ℕ) → Each (IsOwnIn (replicate stripes new_stripe)) (mine_from 0 stripes first count)
own_first stripes first zero = All-nil (All (IsOwnIn (replicate stripes new_stripe)))
own_first stripes first (suc count) =
    All-cons (All (IsOwnIn (replicate stripes new_stripe))) (own_of 0 stripes first ∷ []) (mine_from 0 stripes (first + 1) count)
    (All-cons (IsOwnIn (replicate stripes new_stripe)) (own_of 0 stripes first) [] (no_calls first stripes) (All-nil (IsOwnIn (replicate stripes new_stripe)))) (own_first stripes (first + 1) count)

none_set : (stamp stripes : ℕ) → set_count stamp (replicate stripes new_stripe) ≡ 0
none_set stamp zero = refl
none_set stamp (suc stripes) = zero-add _ ∙ none_set stamp stripes

none_said : (stamp hands : ℕ) → stored_count stamp (replicate hands []) ≡ 0
none_said stamp zero = refl
none_said stamp (suc hands) = zero-add _ ∙ none_said stamp hands

-- one of equal ones
entry_is : {X : Type 0} (n i : ℕ) (x y : X) → slice_get (replicate n x) i ≡ Some y → x ≡ y
entry_is zero i x y e = absurd (cc)
entry_is (suc n) zero x y e = cc
entry_is (suc n) (suc i) x y e = entry_is n i x y e

pub told_first : HoldsAtFirst RecordedIn
told_first table stripes hands start sound _ _ _ _ = record {
  own_calls = own_first stripes 0 hands;
  begun = All-replicate (IsBegun (replicate stripes new_stripe)) hands (replicate stripes [])
      (λ stripe calls value at is. (value.state.history, ap (λ (cs : List Call). cs ++ value.state.history) (entry_is stripes stripe [] calls at)));
  writers = All-replicate (λ (value : ReadyStripe). All (λ call. count_in_hands (hand_of call) (mine hands stripes) ≡ 1) value.state.history) stripes new_stripe (All-nil (λ call. count_in_hands (hand_of call) (mine hands stripes) ≡ 1));
  sets = λ stripe value is. subst (λ (v : ReadyStripe). All (IsSetIn (length (replicate stripes new_stripe)) stripe) v.state.history) (entry_is stripes stripe new_stripe value is) (All-nil (IsSetIn (length (replicate stripes new_stripe)) stripe));
  stored_once = λ stamp. none_set stamp stripes ∙ sym (none_said stamp hands);
  stored = All-replicate (All (IsStored (replicate stripes new_stripe))) hands [] (All-nil (IsStored (replicate stripes new_stripe)));
}
