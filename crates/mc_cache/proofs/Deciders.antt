-- Deciders that are made, one for each arena.
use Rattle.std.proofs.Common.{◌≡◌, ◌<◌, ◌+◌, ◌++◌, ◌∷◌, ◌∙◌, [], ℕ, List, ap, arith, get_or, length, length-append, subst, sym, ⊎_elim}
use Rattle.std.proofs.lemmas.Bool.{cases_eq}
use Rattle.std.proofs.lemmas.List.{get_or_append_left, get_or_at, get_or_default}
use Rattle.mc_cache.specs.Pairs.{ArePaired}

module _ {A B : Type 0} (P : A → B → Type 0) where
  -- the first so many of the one list have each their own of the other, and there are no more of these
  pub record FirstPaired (count : ℕ) (xs : List A) (ys : List B) : Type 0 where
    pub at_limit : length ys ≡ count
    pub each : (place : ℕ) (x : A) (y : B) → place < count → P (get_or xs place x) (get_or ys place y)

  pub none_paired : (xs : List A) (ys : List B) → ys ≡ [] → FirstPaired 0 xs ys
  none_paired xs ys none = record { at_limit = ap length none; each = λ place x y in_range. absurd (omega arith) }

  pub one_paired : (count : ℕ) (xs : List A) (ys all : List B) (x : A) (y : B) → count < length xs → x ≡ get_or xs count x → P x y → all ≡ ys ++ y ∷ [] → FirstPaired count xs ys → FirstPaired (count + 1) xs all
  one_paired count xs ys all x y in_range is own all_is h = record {
    at_limit = omega (arith, ap length all_is, length-append ys (y ∷ []), h.at_limit);
    each = λ k a b less.
        subst (λ (list : List B). P (get_or xs k a) (get_or list k b)) (sym all_is)
        (⊎_elim
        (λ (same : k ≡ count).
        let e1 : get_or xs k a ≡ x = ap (λ (n : ℕ). get_or xs n a) same ∙ sym (is ∙ get_or_default xs count x a in_range) in
        let e2 : get_or (ys ++ y ∷ []) k b ≡ y = get_or_at ys y [] b k (h.at_limit ∙ sym same) in
        rw (e1, e2) own)
        (λ (other : k ≡ count → ⊥).
        let e2 : get_or (ys ++ y ∷ []) k b ≡ get_or ys k b = get_or_append_left ys (y ∷ []) b k (omega (arith, h.at_limit)) in
        rw e2 (h.each k a b (omega arith)))
        (cases_eq k count));
  }

  pub all_paired : (count : ℕ) (xs : List A) (ys : List B) → count ≡ length xs → FirstPaired count xs ys → ArePaired P xs ys
  all_paired count xs ys is h = record { count = h.at_limit ∙ is; each = λ k a b less. h.each k a b (omega arith) }
