-- What is written for each number of a range.
use Rattle.std.proofs.Common.{◌≡◌, ℕ, ◌+◌, ◌∙◌, List, [], ◌∷◌, ◌++◌, flat_map, zero, suc, refl, ap, arith, append_assoc, add-one}
use Rattle.std.specs.List.{range_with_len}

append_nil : {A : Type 0} (xs : List A) → xs ++ [] ≡ xs
append_nil [] = refl
append_nil (x ∷ xs) = ap (λ ys. x ∷ ys) (append_nil xs)

from_more : {A : Type 0} (f : ℕ → List A) (a n j : ℕ) → a + n ≡ j → flat_map f (range_with_len a (suc n)) ≡ flat_map f (range_with_len a n) ++ f j
from_more f a zero j e = let same : a ≡ j = omega (arith, e) in append_nil (f a) ∙ ap f same
from_more f a (suc n) j e = let next : (a + 1) + n ≡ j = omega (arith, e) in
    rw append_assoc (ap (λ xs. f a ++ xs) (from_more f (a + 1) n j next))

-- one number more
flat_range_more : {A : Type 0} (f : ℕ → List A) (n : ℕ) → flat_map f (range_with_len 0 (n + 1)) ≡ flat_map f (range_with_len 0 n) ++ f n
flat_range_more f n = rw add-one (let e : 0 + n ≡ n = omega arith in from_more f 0 n n e)

-- what is written for one number more
pub written_next : (f : ℕ → List ℕ) (n : ℕ) (old text new piece : List ℕ) → text ≡ old ++ flat_map f (range_with_len 0 n) → new ≡ text ++ piece → piece ≡ f n →
    new ≡ old ++ flat_map f (range_with_len 0 (n + 1))
written_next f n old text new piece so more is = rw (more, so, is, flat_range_more f n) (simp append_assoc)
