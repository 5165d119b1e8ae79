-- The last reference to items of a key, found from the end.
use Rattle.std.proofs.Common.{◌≡◌, ◌≤◌, ◌<◌, ℕ, suc, ◌+◌, ◌-◌, ◌==◌, Bool, true, false, List, [], ◌∷◌, ◌++◌, length, reverse, take, drop, get_or, Some, None, All, position, cond, eqb-true, le-ltb, lt-ltb, sym, ap, subst, ◌∙◌, arith, inl, inr}
use Rattle.std.specs.List.{position_or_len}
use Rattle.std.proofs.lemmas.Bool.{cases_lt, eqb-false}
use Rattle.std.proofs.lemmas.List.{get_or-drop, get_or-reverse, length-append, length-drop, length-reverse, map-append}
use Rattle.std.proofs.lemmas.List.Elements.{All-map}
use Rattle.std.proofs.Math.Seq.{split_at}
use Rattle.std.proofs.lemmas.List.Quantifiers.{position-Some}
use Rattle.std.proofs.lemmas.List.Sums.{fails_before_first}
use Rattle.mc_items.specs.declared.refs.Ref.{Ref}
use Rattle.mc_items.specs.ItemRefs.{item_key}
use Rattle.mc_words.specs.hand.View.{View}
use Rattle.mc_workers.specs.Kept.{IsLastAt, IsLastOf, IsOfOther, IsToOther, KeptReference, hold_of, kept_references}

-- the reference is to an item of the key
abbrev pub has_key : ℕ → Ref → Bool
has_key key item = item_key item == key

-- what is found is within the list
none≢some : (place : ℕ) → None ≡ Some place → ⊥
none≢some place e = cc

found_within : (p : Ref → Bool) (items : List Ref) (place : ℕ) → position p items ≡ Some place → place < length items
found_within p items place found = elim (cases_lt (position_or_len p items) (length items)) [
  | inl within ↦ let same : Some place ≡ Some (position_or_len p items) = sym found ∙ ap (λ (b : Bool). cond b (Some (position_or_len p items)) None) (lt-ltb _ _ within) in
      let place_is : place ≡ position_or_len p items = cc in omega arith
  | inr past ↦ absurd (none≢some place (sym (ap (λ (b : Bool). cond b (Some (position_or_len p items)) None) (le-ltb _ _ past)) ∙ found))
]

-- a place counted from the end
pub last_there : (key : ℕ) (kept : List Ref) (behind : ℕ) → position (has_key key) (reverse kept) ≡ Some behind → (place : ℕ) → place ≡ length kept - 1 - behind → IsLastAt key kept place
last_there key kept behind found place at = record {
  there = omega (arith, long, within);
  of_key = λ d. eqb-true _ _ (ap (λ (item : Ref). item_key item == key) (ap (λ (k : ℕ). get_or kept k d) at ∙ sym (get_or-reverse kept behind d (omega (arith, long, within)))) ∙ (first d).1);
  later = λ k d below. eqb-false _ _ (ap (λ (item : Ref). item_key item == key) (shown k d below) ∙ (first d).2 (behind - 1 - k) (omega (arith, long, within, length-drop (place + 1) kept)));
}
  where
    first : (d : Ref) → (behind < length (reverse kept)) × (has_key key (get_or (reverse kept) behind d) ≡ true) × ((k : ℕ) → k < behind → has_key key (get_or (reverse kept) k d) ≡ false)
    first d = position-Some (has_key key) (reverse kept) behind d found

    long : length (reverse kept) ≡ length kept
    long = length-reverse kept

    within : behind < length (reverse kept)
    within = found_within (has_key key) (reverse kept) behind found

    shown : (k : ℕ) (d : Ref) → k < length (drop (place + 1) kept) → get_or (drop (place + 1) kept) k d ≡ get_or (reverse kept) (behind - 1 - k) d
    shown k d below =
        get_or-drop (place + 1) kept k d
        ∙ (ap (λ (n : ℕ). get_or kept n d) (omega (arith, long, within, length-drop (place + 1) kept))
        ∙ sym (get_or-reverse kept (behind - 1 - k) d (omega (arith, long, within, length-drop (place + 1) kept))))

-- none from the end is none at all
pub none_there : (key : ℕ) (kept : List Ref) → position (has_key key) (reverse kept) ≡ None → All (IsToOther key) kept
none_there key kept none = λ k d below.
    let long = length-reverse kept in
    let same = get_or-reverse kept (length kept - 1 - k) d (omega arith) in
    let place : length kept - 1 - (length kept - 1 - k) ≡ k = omega arith in
    eqb-false _ _ (ap (λ (item : Ref). item_key item == key) (sym (same ∙ ap (λ (n : ℕ). get_or kept n d) place)) ∙ fails_before_first (has_key key) (reverse kept) (length kept - 1 - k) d (omega (arith, all_fail, long)))
  where
    all_fail : length (reverse kept) ≤ position_or_len (has_key key) (reverse kept)
    all_fail = elim (cases_lt (position_or_len (has_key key) (reverse kept)) (length (reverse kept))) [
      | inl within ↦ absurd (none≢some _ (sym none ∙ ap (λ (b : Bool). cond b (Some (position_or_len (has_key key) (reverse kept))) None) (lt-ltb _ _ within)))
      | inr past ↦ past
    ]

-- the references in front of a place, that at it, and those behind it
pub parted : (kept : List Ref) (place : ℕ) (d : Ref) → place < length kept → kept ≡ take place kept ++ get_or kept place d ∷ drop (suc place) kept
parted kept place d within = split_at kept place d within

-- holds of none of the key, where no reference is to one
pub none_held : (key : ℕ) (view : View) (kept : List Ref) → All (IsToOther key) kept → All (IsOfOther key) (kept_references view kept)
none_held key view kept others = All-map (IsOfOther key) (hold_of view) kept others

-- the hold that came last of the key
pub last_held : (key : ℕ) (view : View) (kept : List Ref) (place : ℕ) (d : Ref) → IsLastAt key kept place →
    IsLastOf key (kept_references view kept) (hold_of view (get_or kept place d)) (kept_references view (take place kept ++ drop (suc place) kept))
last_held key view kept place d is = record {
  before = kept_references view (take place kept);
  behind = kept_references view (drop (suc place) kept);
  all = ap (kept_references view) (parted kept place d is.there) ∙ map-append (hold_of view) (take place kept) (get_or kept place d ∷ drop (suc place) kept);
  of_key = is.of_key d;
  later = none_held key view (drop (suc place) kept) (let next : place + 1 ≡ suc place = omega arith in subst (λ (n : ℕ). All (IsToOther key) (drop n kept)) next is.later);
  rest = map-append (hold_of view) (take place kept) (drop (suc place) kept);
}

-- three holds, the first and the third of one key
pub last_of_three : (first other third last : KeptReference) (left : List KeptReference) → item_key first.item ≡ 5 → item_key other.item ≡ 6 → item_key third.item ≡ 5
    → IsLastOf 5 (first ∷ other ∷ third ∷ []) last left → (last ≡ third) × (left ≡ first ∷ other ∷ [])
last_of_three first other third last left is_first is_other is_third is = by is.before is.behind is.all is.later is.rest
  where
    by : (before behind : List KeptReference) → first ∷ other ∷ third ∷ [] ≡ before ++ last ∷ behind → All (IsOfOther 5) behind → left ≡ before ++ behind → (last ≡ third) × (left ≡ first ∷ other ∷ [])
    by [] behind all later rest =
        let are : behind ≡ other ∷ third ∷ [] = cc in
        absurd (subst (All (IsOfOther 5)) are later 1 third (omega arith) is_third)
    by (a ∷ []) behind all later rest =
        let are : behind ≡ third ∷ [] = cc in
        absurd (subst (All (IsOfOther 5)) are later 0 third (omega arith) is_third)
    by (a ∷ b ∷ []) behind all later rest =
        let is_last : last ≡ third = cc in
        let are : left ≡ first ∷ other ∷ [] = cc in
        (is_last, are)
    by (a ∷ b ∷ c ∷ before) behind all later rest =
        let long = ap (λ (l : List KeptReference). length l) all in
        let more = length-append before (last ∷ behind) in
        absurd (omega arith)
