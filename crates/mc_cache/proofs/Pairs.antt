-- Lists whose elements go together place by place.
use Rattle.std.proofs.Common.{◌≡◌, ◌<◌, ◌≤◌, ◌-◌, ◌++◌, ◌∷◌, [], ◌∙◌, ℕ, List, arith, get_or, length, length-append, set, subst, sym, take, ⊎_elim}
use Rattle.std.proofs.lemmas.Bool.{cases_eq, cases_lt}
use Rattle.std.proofs.lemmas.List.{get_or-set_other, get_or-set_same, get_or-take, get_or_append_left, get_or_at, get_or_default, length-set, length-take-le}
use Rattle.mc_cache.specs.Pairs.{ArePaired}

module _ {A B : Type 0} (P : A → B → Type 0) where
  -- another in one place, which goes with what is there
  pub pair_set : (xs : List A) (ys : List B) (place : ℕ) (x : A) (y : B) → place < length xs → x ≡ get_or xs place x → P x y → ArePaired P xs ys → ArePaired P xs (set ys place y)
  pair_set xs ys place x y within is own h = record {
    count = length-set ys place y ∙ h.count;
    each = λ k a b less.
        ⊎_elim
        (λ (same : k ≡ place).
        let own_y : P x (get_or (set ys place y) place b) = subst (λ (z : B). P x z) (sym (get_or-set_same ys place y b (omega (arith, h.count)))) own in
        let own_x : P (get_or xs place a) (get_or (set ys place y) place b) = subst (λ (z : A). P z (get_or (set ys place y) place b)) (is ∙ get_or_default xs place x a within) own_y in
        subst (λ (n : ℕ). P (get_or xs n a) (get_or (set ys place y) n b)) (sym same) own_x)
        (λ (other : k ≡ place → ⊥). subst (λ (z : B). P (get_or xs k a) z) (sym (get_or-set_other ys place k y b other)) (h.each k a b less))
        (cases_eq k place);
  }

  -- one more of each, behind the others
  pub pair_push : (xs : List A) (ys : List B) (y : B) → 0 < length xs → ((x : A) → P (get_or xs (length xs - 1) x) y) → ArePaired P (take (length xs - 1) xs) ys → ArePaired P xs (ys ++ y ∷ [])
  pair_push xs ys y some own h =
      let len : length ys ≡ length xs - 1 = h.count ∙ length-take-le (length xs - 1) xs (omega arith) in
      record {
        count = omega (arith, length-append {A = B} ys (y ∷ []));
        each = λ k a b less.
            ⊎_elim
            (λ (before : k < length xs - 1).
            let there = h.each k a b (omega (arith, length-take-le (length xs - 1) xs (omega arith))) in
            let left : P (get_or xs k a) (get_or ys k b) = subst (λ (z : A). P z (get_or ys k b)) (get_or-take (length xs - 1) xs k a before) there in
            subst (λ (z : B). P (get_or xs k a) z) (sym (get_or_append_left ys (y ∷ []) b k (omega arith))) left)
            (λ (last : length xs - 1 ≤ k).
            let is : k ≡ length xs - 1 = omega arith in
            let right : P (get_or xs (length xs - 1) a) (get_or (ys ++ y ∷ []) (length xs - 1) b) = subst (λ (z : B). P (get_or xs (length xs - 1) a) z) (sym (get_or_at ys y [] b (length xs - 1) len)) (own a) in
            subst (λ (n : ℕ). P (get_or xs n a) (get_or (ys ++ y ∷ []) n b)) (sym is) right)
            (cases_lt k (length xs - 1));
      }
