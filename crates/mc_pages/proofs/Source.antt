-- The class that gives a page, where the answer is OK.
use Rattle.std.proofs.Common.{◌≡◌, ◌≢◌, ℕ, ◌≤◌, ◌==◌, ◌||◌, nat_lt, Bool, true, List, [], ◌∷◌, length, find, Option, Some, None, Result, Ok, Err, refl, sym, ap, ◌∙◌, inl, inr, arith}
use Rattle.std.proofs.lemmas.Bool.{cases_Bool, and_parts, or_parts, not-true, eqb-false, ltb-false}
use Rattle.std.proofs.lemmas.Option.{same_Some}
use Rattle.mc_pages.specs.declared.ids.Moving.{Moving}
use Rattle.mc_pages.specs.declared.moves.Reassign.{Reassign}
use Rattle.mc_pages.specs.declared.moves.Reassign.TheVariants.{Busy, Same, BadClass, NoSpare}
use Rattle.mc_pages.specs.SlabState.{SlabState, HasClass, class_at}
use Rattle.mc_pages.specs.Answer.{can_give, classes_in_turn, picked_class, answer_from, answer_at_rest, answer_if, answer_of}

-- a refusal is no class
refused : (refusal : Reassign) (source : ℕ) → Err refusal ≡ Ok source → ⊥
refused refusal source h = cc

-- a class that is the answer
same_Ok : (a b : ℕ) → ◌≡◌ {A = Result ℕ Reassign} (Ok a) (Ok b) → a ≡ b
same_Ok a b h = cc

-- what is found passes the test
found_passes : (test : ℕ → Bool) (xs : List ℕ) (found : ℕ) → find test xs ≡ Some found → test found ≡ true
found_passes test [] found h = absurd (let none : None ≡ Some found = h in cc)
found_passes test (x ∷ xs) found h =
    elim (cases_Bool (test x)) [
      | inl here ↦ ap test (sym (same_Some x found (rw here at h))) ∙ here
      | inr not_here ↦ found_passes test xs found (rw not_here at h)
    ]

-- what the answer tells of the source that was named or picked
pub record IsSource (slabs : SlabState) (source dst : ℕ) : Type 0 where
  pub is : HasClass slabs source
  pub spare : 2 ≤ length (class_at slabs source).pages
  pub to : dst ≤ length slabs.classes

-- a source with a page to spare
IsSource_from : (slabs : SlabState) (dst source : ℕ) (src : Option ℕ) → answer_from slabs dst src ≡ Ok source → (src ≡ Some source) × IsSource slabs source dst
IsSource_from slabs dst source None h = absurd (refused BadClass source h)
IsSource_from slabs dst source (Some src) h =
    elim (cases_Bool (src == 0 || nat_lt (length slabs.classes) src || nat_lt (length slabs.classes) dst)) [
      | inl bad ↦ absurd (refused BadClass source (rw bad at h))
      | inr good ↦
          let rest = rw good at h in
          let tests = or_parts _ _ good in
          let first = or_parts _ _ tests.0 in
          elim (cases_Bool (nat_lt (length (class_at slabs src).pages) 2)) [
            | inl within_limit ↦ absurd (refused NoSpare source (rw within_limit at rest))
            | inr more ↦
                let same : src ≡ source = same_Ok src source (rw more at rest) in
                let named = ltb-false (length slabs.classes) src first.1 in
                let not_zero = eqb-false src 0 first.0 in
                let spare = ltb-false (length (class_at slabs src).pages) 2 more in
                let pages = ap (λ (n : ℕ). length (class_at slabs n).pages) same in
                (ap (λ (n : ℕ). Some n) same, record { is = (omega arith, omega arith); spare = omega arith; to = ltb-false (length slabs.classes) dst tests.1 })
          ]
    ]

-- the source differs from the destination
apart_at_rest : (slabs : SlabState) (source dst : ℕ) (src : Option ℕ) → answer_at_rest slabs src dst ≡ Ok source → IsSource slabs source dst × (source ≢ dst)
apart_at_rest slabs source dst None h =
    let from = IsSource_from slabs dst source (picked_class slabs dst) h in
    let passes = found_passes (can_give slabs dst) (classes_in_turn slabs) source from.0 in
    (from.1, eqb-false source dst (not-true _ (and_parts _ _ passes).0))
apart_at_rest slabs source dst (Some src) h =
    elim (cases_Bool (src == dst)) [
      | inl same ↦ absurd (refused Same source (rw same at h))
      | inr differs ↦
          let from = IsSource_from slabs dst source (Some src) (rw differs at h) in
          let named : src ≡ source = same_Some src source from.0 in
          (from.1, λ e. eqb-false src dst differs (named ∙ e))
    ]

-- no page moves yet
rest_of_answer : (slabs : SlabState) (src : Option ℕ) (source dst : ℕ) (moving : Option Moving) → answer_if slabs src dst moving ≡ Ok source → (answer_at_rest slabs src dst ≡ Ok source) × (moving ≡ None)
rest_of_answer slabs src source dst None h = (h, refl)
rest_of_answer slabs src source dst (Some move) h = absurd (refused Busy source h)

-- the source is a class with a page to spare and isn't the destination, which is a class or the pool, and no page moves
pub source_is : (slabs : SlabState) (src : Option ℕ) (source dst : ℕ) → answer_of slabs src dst ≡ Ok source → HasClass slabs source × (2 ≤ length (class_at slabs source).pages) × (dst ≤ length slabs.classes) × (source ≢ dst) × (slabs.moving ≡ None)
source_is slabs src source dst h =
    let rest = rest_of_answer slabs src source dst slabs.moving h in
    let apart = apart_at_rest slabs source dst src rest.0 in
    let from = apart.0 in
    (from.is, from.spare, from.to, apart.1, rest.1)
