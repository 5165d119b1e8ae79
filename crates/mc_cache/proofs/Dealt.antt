-- Hands that are dealt out, one to each of a list.
use Rattle.std.proofs.Common.{◌≡◌, ◌<◌, ◌≤◌, ◌+◌, ◌-◌, ◌++◌, ◌∷◌, [], ◌∙◌, ℕ, List, All, ap, arith, get_or, length, length-append, refl, set, subst, sym, take, ⊎_elim}
use Rattle.std.proofs.lemmas.Bool.{cases_eq, cases_lt}
use Rattle.std.proofs.lemmas.List.{get_or-set_other, get_or-set_same, get_or_append_left, get_or_at, length-set}
use Rattle.mc_cache.specs.Pairs.{ArePaired}
use Rattle.mc_cache.proofs.Pairs.{pair_push}

-- what holds of each element holds of each but the last, and of the last
pub each_front : {A : Type 0} (P : A → Type 0) (xs : List A) (x : A) → All P (xs ++ x ∷ []) → All P xs
each_front P xs x h = λ k a less. subst P (get_or_append_left xs (x ∷ []) a k less) (h k a (omega (arith, length-append xs (x ∷ []))))

pub each_last : {A : Type 0} (P : A → Type 0) (xs : List A) (x : A) → All P (xs ++ x ∷ []) → P x
each_last P xs x h = subst P (get_or_at xs x [] x (length xs) refl) (h (length xs) x (omega (arith, length-append xs (x ∷ []))))

pub each_set : {A : Type 0} (P : A → Type 0) (xs : List A) (place : ℕ) (x : A) → P x → All P xs → All P (set xs place x)
each_set {A} P xs place x own h = λ k a less.
    ⊎_elim
    (λ (same : k ≡ place). subst P (sym (get_or-set_same xs place x a (omega (arith, length-set xs place x))) ∙ ap (λ (n : ℕ). get_or (set xs place x) n a) (sym same)) own)
    (λ (other : k ≡ place → ⊥). subst P (sym (get_or-set_other xs place k x a other)) (h k a (omega (arith, length-set xs place x))))
    (cases_eq k place)

module _ {A B W : Type 0} (P : A → B → Type 0) (F : W → List B) where
  -- up to a place each has one for each of these, and from there on for each but the last; for these some are left
  pub record AreDealt (xs : List A) (workers : List W) (place : ℕ) (ys : List B) : Type 0 where
    pub dealt : (k : ℕ) (w : W) → k < place → ArePaired P xs (F (get_or workers k w))
    pub left : (k : ℕ) (w : W) → place ≤ k → k < length workers → ArePaired P (take (length xs - 1) xs) (F (get_or workers k w))
    pub own : (last : A) → All (P (get_or xs (length xs - 1) last)) ys
    pub enough : length workers ≤ place + length ys

  pub deal_more : (xs : List A) (workers : List W) (place : ℕ) (ys front : List B) (y : B) (worker next : W)
      → 0 < length xs → place < length workers → worker ≡ get_or workers place worker → ys ≡ front ++ y ∷ [] → F next ≡ F worker ++ y ∷ []
      → AreDealt xs workers place ys → AreDealt xs (set workers place next) (place + 1) front
  deal_more xs workers place ys front y worker next some within is taken given h =
      let mine : ArePaired P (take (length xs - 1) xs) (F worker) = subst (λ (w : W). ArePaired P (take (length xs - 1) xs) (F w)) (sym is) (h.left place worker (omega arith) within) in
      let own : (last : A) → All (P (get_or xs (length xs - 1) last)) (front ++ y ∷ []) = λ last. subst (All (P (get_or xs (length xs - 1) last))) taken (h.own last) in
      let now : ArePaired P xs (F next) = subst (ArePaired P xs) (sym given) (pair_push P xs (F worker) y some (λ last. each_last (P (get_or xs (length xs - 1) last)) front y (own last)) mine) in
      record {
        dealt = λ k w less.
            ⊎_elim
            (λ (same : k ≡ place). subst (λ (v : W). ArePaired P xs (F v)) (sym (get_or-set_same workers place next w within) ∙ ap (λ (n : ℕ). get_or (set workers place next) n w) (sym same)) now)
            (λ (other : k ≡ place → ⊥). subst (λ (v : W). ArePaired P xs (F v)) (sym (get_or-set_other workers place k next w other)) (h.dealt k w (omega arith)))
            (cases_eq k place);
        left = λ k w from within_k.
            let other : k ≡ place → ⊥ = λ same. omega arith in
            subst (λ (v : W). ArePaired P (take (length xs - 1) xs) (F v)) (sym (get_or-set_other workers place k next w other)) (h.left k w (omega arith) (omega (arith, length-set workers place next)));
        own = λ last. each_front (P (get_or xs (length xs - 1) last)) front y (own last);
        enough = omega (arith, length-set workers place next, ap length taken, length-append front (y ∷ []), h.enough);
      }

  -- before the first was dealt, and behind the last
  pub deal_none : (xs : List A) (workers : List W) (ys : List B) → All (λ w. ArePaired P (take (length xs - 1) xs) (F w)) workers → ((last : A) → All (P (get_or xs (length xs - 1) last)) ys) → length workers ≤ length ys → AreDealt xs workers 0 ys
  deal_none xs workers ys all own enough = record { dealt = λ k w less. absurd (omega arith); left = λ k w from within. all k w within; own = own; enough = omega arith }

  pub deal_all : (xs : List A) (workers : List W) (place : ℕ) (ys : List B) → length workers ≤ place → AreDealt xs workers place ys → All (λ w. ArePaired P xs (F w)) workers
  deal_all xs workers place ys ended h = λ k w less. h.dealt k w (omega arith)

-- one element more
pub each_push : {A : Type 0} (P : A → Type 0) (xs : List A) (x : A) → P x → All P xs → All P (xs ++ x ∷ [])
each_push {A} P xs x own h = λ k a less.
    ⊎_elim
    (λ (before : k < length xs). subst P (sym (get_or_append_left xs (x ∷ []) a k before)) (h k a before))
    (λ (last : length xs ≤ k).
    let is : k ≡ length xs = omega (arith, length-append xs (x ∷ [])) in
    subst (λ (n : ℕ). P (get_or (xs ++ x ∷ []) n a)) (sym is) (subst P (sym (get_or_at xs x [] a (length xs) refl)) own))
    (cases_lt k (length xs))
