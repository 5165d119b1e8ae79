-- Lists whose entries stand apart.
use Rattle.std.proofs.Common.{◌≡◌, ℕ, zero, suc, ◌+◌, ◌*◌, List, [], ◌∷◌, ◌++◌, map, length, replicate, refl, sym, ap, ap₂, ◌∙◌, arith, set, get_or, length-append}
use Rattle.std.proofs.lemmas.List.{length-replicate, get_or-append-add, append_assoc, map-append, replicate-append-replicate}
use lib.ListN.{get_elem?}
use Rattle.mc_words.specs.rule.Layout.{spread}

-- what is set behind the first of two lists
set_behind : {A : Type 0} (xs ys : List A) (i : ℕ) (y : A) → set (xs ++ ys) (length xs + i) y ≡ xs ++ set ys i y
set_behind [] ys i y = let e : 0 + i ≡ i = omega arith in ap (λ n. set ys n y) e
set_behind (x ∷ xs) ys i y =
    let e : suc (length xs) + i ≡ suc (length xs + i) = omega arith in
    ap (λ n. set (x ∷ (xs ++ ys)) n y) e ∙ ap (λ l. x ∷ l) (set_behind xs ys i y)

-- and found there
elem_behind : {A : Type 0} (xs ys : List A) (i : ℕ) → get_elem? (xs ++ ys) (length xs + i) ≡ get_elem? ys i
elem_behind [] ys i = let e : 0 + i ≡ i = omega arith in ap (get_elem? ys) e
elem_behind (x ∷ xs) ys i =
    let e : suc (length xs) + i ≡ suc (length xs + i) = omega arith in
    ap (get_elem? (x ∷ (xs ++ ys))) e ∙ elem_behind xs ys i

map_same : {A B : Type 0} (f : A → B) (n : ℕ) (a : A) → map f (replicate n a) ≡ replicate n (f a)
map_same f zero a = refl
map_same f (suc n) a = ap (λ l. f a ∷ l) (map_same f n a)

module _ {A : Type 0} (between : ℕ) (other : A) where
  -- those that stand between two
  abbrev gap : List A
  gap = replicate between other

  -- where the next entry but so many stands
  next_place : (i : ℕ) → (1 + between) * suc i ≡ suc (length gap + (1 + between) * i)
  next_place i = let long : length gap ≡ between = length-replicate between other in omega arith

  -- an entry is set
  pub spread_set : (xs : List A) (i : ℕ) (x : A) → set (spread between other xs) ((1 + between) * i) x ≡ spread between other (set xs i x)
  spread_set [] i x = refl
  spread_set (y ∷ ys) zero x = let e : (1 + between) * 0 ≡ 0 = omega arith in ap (λ n. set (spread between other (y ∷ ys)) n x) e
  spread_set (y ∷ ys) (suc i) x =
      ap (λ n. set (spread between other (y ∷ ys)) n x) (next_place i)
      ∙ ap (λ l. y ∷ l) (set_behind gap (spread between other ys) ((1 + between) * i) x ∙ ap (λ l. gap ++ l) (spread_set ys i x))

  -- and read
  pub spread_get : (xs : List A) (i : ℕ) (none : A) → get_or (spread between other xs) ((1 + between) * i) none ≡ get_or xs i none
  spread_get [] i none = refl
  spread_get (y ∷ ys) zero none = let e : (1 + between) * 0 ≡ 0 = omega arith in ap (λ n. get_or (spread between other (y ∷ ys)) n none) e
  spread_get (y ∷ ys) (suc i) none =
      ap (λ n. get_or (spread between other (y ∷ ys)) n none) (next_place i)
      ∙ (get_or-append-add gap (spread between other ys) ((1 + between) * i) none ∙ spread_get ys i none)

  -- one that may not be there
  pub spread_elem : (xs : List A) (i : ℕ) → get_elem? (spread between other xs) ((1 + between) * i) ≡ get_elem? xs i
  spread_elem [] i = refl
  spread_elem (y ∷ ys) zero = let e : (1 + between) * 0 ≡ 0 = omega arith in ap (λ n. get_elem? (spread between other (y ∷ ys)) n) e
  spread_elem (y ∷ ys) (suc i) =
      ap (λ n. get_elem? (spread between other (y ∷ ys)) n) (next_place i) ∙ (elem_behind gap (spread between other ys) ((1 + between) * i) ∙ spread_elem ys i)

  -- how long the list is
  pub spread_long : (xs : List A) → length (spread between other xs) ≡ (1 + between) * length xs
  spread_long [] = let e : (1 + between) * 0 ≡ 0 = omega arith in sym e
  spread_long (y ∷ ys) =
      let long : length (gap ++ spread between other ys) ≡ length gap + length (spread between other ys) = length-append gap (spread between other ys) in
      let more = spread_long ys in
      let next = next_place (length ys) in omega arith

  -- one list behind another
  pub spread_append : (xs ys : List A) → spread between other (xs ++ ys) ≡ spread between other xs ++ spread between other ys
  spread_append [] ys = refl
  spread_append (x ∷ xs) ys = ap (λ l. x ∷ l) (ap (λ l. gap ++ l) (spread_append xs ys) ∙ sym (append_assoc gap (spread between other xs) (spread between other ys)))

  -- all of one kind
  pub spread_same : (n : ℕ) → spread between other (replicate n other) ≡ replicate ((1 + between) * n) other
  spread_same zero = let e : (1 + between) * 0 ≡ 0 = omega arith in sym (ap (λ n. replicate n other) e)
  spread_same (suc n) =
      let e : (1 + between) * suc n ≡ suc (between + (1 + between) * n) = omega arith in
      ap (λ l. other ∷ l) (ap (λ l. gap ++ l) (spread_same n) ∙ replicate-append-replicate between ((1 + between) * n) other)
      ∙ sym (ap (λ n. replicate n other) e)

-- entries that were mapped
pub map_spread : {A B : Type 0} (f : A → B) (between : ℕ) (other : A) (xs : List A) → map f (spread between other xs) ≡ spread between (f other) (map f xs)
map_spread f between other [] = refl
map_spread f between other (x ∷ xs) =
    ap (λ l. f x ∷ l) (map-append f (replicate between other) (spread between other xs) ∙ ap₂ (λ l m. l ++ m) (map_same f between other) (map_spread f between other xs))
