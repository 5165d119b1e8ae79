-- Hands of which the first did something, one after another.
use Rattle.std.proofs.Common.{◌≡◌, ◌<◌, ◌≤◌, ◌+◌, ◌++◌, ◌∷◌, [], ◌∙◌, ℕ, List, arith, get_or, length, length-append, refl, set, sym, ⊎_elim}
use Rattle.std.proofs.lemmas.Bool.{cases_eq}
use Rattle.std.proofs.lemmas.List.{get_or-set_other, get_or_append_left, get_or_at}
use Rattle.mc_words.specs.declared.hand.Hand.{Hand}
use Rattle.mc_mover.specs.declared.numbers.Survey.{Survey}
use Rattle.mc_cache.specs.Stats.{SurveysFirst, SurveysShard}
use Rattle.mc_cache.proofs.Tendings.{at_place, was_there}

module _ (Does : Hand → Hand → Type 0) where
  -- up to a shard each hand did this, and from there on all are as they were
  pub record FirstDo (count : ℕ) (hands hands_now : List Hand) : Type 0 where
    pub each : (shard : ℕ) (hand now : Hand) → shard < count → Does (get_or hands shard hand) (get_or hands_now shard now)
    pub left : (shard : ℕ) (hand : Hand) → count ≤ shard → get_or hands_now shard hand ≡ get_or hands shard hand

  pub none_do : (hands : List Hand) → FirstDo 0 hands hands
  none_do hands = record { each = λ shard hand now in_range. absurd (omega arith); left = λ shard hand from. refl }

  pub one_does : (count : ℕ) (hands hands_now : List Hand) (hand now : Hand) → count < length hands_now → hand ≡ get_or hands_now count hand → Does hand now → FirstDo count hands hands_now → FirstDo (count + 1) hands (set hands_now count now)
  one_does count hands hands_now hand now in_range is does h = record {
    each = λ k a b less.
        ⊎_elim
        (λ (same : k ≡ count).
        let e1 : get_or hands k a ≡ hand = was_there hands_now hands count k hand a same in_range is h.left in
        let e2 : get_or (set hands_now count now) k b ≡ now = at_place hands_now count k now b same in_range in
        rw (e1, e2) does)
        (λ (other : k ≡ count → ⊥).
        let e2 : get_or (set hands_now count now) k b ≡ get_or hands_now k b = get_or-set_other hands_now count k now b other in
        rw e2 (h.each k a b (omega arith)))
        (cases_eq k count);
    left = λ k a from. get_or-set_other hands_now count k now a (λ (same : k ≡ count). omega arith) ∙ h.left k a (omega arith);
  }

  -- at the shard at which this wasn't done, those before it did it
  pub first_before : (count : ℕ) (hands hands_now : List Hand) (now : Hand) → FirstDo count hands hands_now → (shard : ℕ) (hand after : Hand) → shard < count → Does (get_or hands shard hand) (get_or (set hands_now count now) shard after)
  first_before count hands hands_now now h k a b less =
      let e3 : get_or (set hands_now count now) k b ≡ get_or hands_now k b = get_or-set_other hands_now count k now b (λ (same : k ≡ count). omega arith) in
      rw e3 (h.each k a b less)

  -- and there this was done
  pub at_last : (count : ℕ) (hands hands_now : List Hand) (hand now : Hand) → count < length hands_now → hand ≡ get_or hands_now count hand → ((shard : ℕ) (h : Hand) → count ≤ shard → get_or hands_now shard h ≡ get_or hands shard h) → Does hand now
      → (a b : Hand) → Does (get_or hands count a) (get_or (set hands_now count now) count b)
  at_last count hands hands_now hand now in_range is left does a b =
      let e1 : get_or hands count a ≡ hand = was_there hands_now hands count count hand a refl in_range is left in
      let e2 : get_or (set hands_now count now) count b ≡ now = at_place hands_now count count now b refl in_range in
      rw (e1, e2) does

-- up to a shard each was surveyed, and from there on all hands are as they were
pub record AreSurveyed (count : ℕ) (hands hands_now : List Hand) (surveys : List Survey) : Type 0 where
  pub first : SurveysFirst count hands hands_now surveys
  pub left : (shard : ℕ) (hand : Hand) → count ≤ shard → get_or hands_now shard hand ≡ get_or hands shard hand

pub none_surveyed : (hands : List Hand) → AreSurveyed 0 hands hands []
none_surveyed hands = record { first = record { surveyed = refl; each = λ shard survey hand now in_range. absurd (omega arith) }; left = λ shard hand from. refl }

pub one_surveyed : (count : ℕ) (hands hands_now : List Hand) (surveys : List Survey) (survey : Survey) (hand now : Hand) → count < length hands_now → hand ≡ get_or hands_now count hand → SurveysShard survey hand now
    → AreSurveyed count hands hands_now surveys → AreSurveyed (count + 1) hands (set hands_now count now) (surveys ++ survey ∷ [])
one_surveyed count hands hands_now surveys survey hand now in_range is shows h = record {
  first = record {
    surveyed = omega (arith, length-append surveys (survey ∷ []), h.first.surveyed);
    each = λ k s a b less.
        ⊎_elim
        (λ (same : k ≡ count).
        let e1 : get_or (surveys ++ survey ∷ []) k s ≡ survey = get_or_at surveys survey [] s k (h.first.surveyed ∙ sym same) in
        let e2 : get_or hands k a ≡ hand = was_there hands_now hands count k hand a same in_range is h.left in
        let e3 : get_or (set hands_now count now) k b ≡ now = at_place hands_now count k now b same in_range in
        rw (e1, e2, e3) shows)
        (λ (other : k ≡ count → ⊥).
        let before : k < count = omega arith in
        let e1 : get_or (surveys ++ survey ∷ []) k s ≡ get_or surveys k s = get_or_append_left surveys (survey ∷ []) s k (omega (arith, h.first.surveyed)) in
        let e3 : get_or (set hands_now count now) k b ≡ get_or hands_now k b = get_or-set_other hands_now count k now b other in
        rw (e1, e3) (h.first.each k s a b before))
        (cases_eq k count);
  };
  left = λ k a from. get_or-set_other hands_now count k now a (λ (same : k ≡ count). omega arith) ∙ h.left k a (omega arith);
}

-- at the shard at which a survey was refused, those before it had theirs
pub surveyed_before : (count : ℕ) (hands hands_now : List Hand) (surveys : List Survey) (now : Hand) → AreSurveyed count hands hands_now surveys → SurveysFirst count hands (set hands_now count now) surveys
surveyed_before count hands hands_now surveys now h = record {
  surveyed = h.first.surveyed;
  each = λ k s a b less.
      let e3 : get_or (set hands_now count now) k b ≡ get_or hands_now k b = get_or-set_other hands_now count k now b (λ (same : k ≡ count). omega arith) in
      rw e3 (h.first.each k s a b less);
}
