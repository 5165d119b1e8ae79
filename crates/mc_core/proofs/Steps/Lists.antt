-- Lists that grow by one, and places in lists.
use Rattle.std.proofs.Common.{◌≡◌, ℕ, zero, suc, ◌+◌, ◌<◌, ◌≤◌, ◌∙◌, Bool, true, false, not, cond, nat_lt, set, get_or, slice_index_or, subst, one-add, lt-ltb, List, [], ◌∷◌, ◌++◌, length, map, take, replicate, Some, None, refl, sym, ap, arith, add-one, slice_get, inl, inr}
use Rattle.std.specs.List.{find, position, position_or_len, remove, range_with_len}
use Rattle.std.proofs.lemmas.Bool.{cases_lt}
use Rattle.std.proofs.lemmas.List.Folds.{find_at}
use Rattle.std.proofs.lemmas.Option.{slice_get_past}
use Rattle.std.proofs.Math.Seq.{take-append_seam}
use Rattle.std.proofs.lemmas.List.{replicate-append-replicate, set-get_or}
use Rattle.std.proofs.lemmas.List.FromFn.{map-range_with_len_more}
use Rattle.mc_core.specs.declared.holding.Holding.{Holding}
use Rattle.mc_core.specs.model.Holdings.{without_first, Words, all_known}

pub replicate_more : {X : Type 0} (n : ℕ) (x : X) → replicate (n + 1) x ≡ replicate n x ++ x ∷ []
replicate_more n x = sym (replicate-append-replicate n 1 x)

pub map_range_more : {X : Type 0} (f : ℕ → X) (n : ℕ) → map f (range_with_len 0 (n + 1)) ≡ map f (range_with_len 0 n) ++ f n ∷ []
map_range_more f n = map-range_with_len_more f 0 n n (omega arith)

-- the entry behind the first n
pub take_next : {X : Type 0} (xs : List X) (n : ℕ) (x : X) → slice_get xs n ≡ Some x → take (suc n) xs ≡ take n xs ++ x ∷ []
take_next [] n x e = absurd (cc)
take_next (y ∷ ys) zero x e = let same : y ≡ x = (cc) in ap (λ z. z ∷ []) same
take_next (y ∷ ys) (suc n) x e = ap (λ zs. y ∷ zs) (take_next ys n x e)

pub there : {X : Type 0} (xs : List X) (n : ℕ) (x : X) → slice_get xs n ≡ Some x → n < length xs
there [] n x e = absurd (cc)
there (y ∷ ys) zero x e = omega arith
there (y ∷ ys) (suc n) x e = let within = there ys n x e in omega arith

pub take_all : {X : Type 0} (xs : List X) (n : ℕ) → slice_get xs n ≡ None → take n xs ≡ xs
take_all [] zero e = refl
take_all [] (suc n) e = refl
take_all (y ∷ ys) zero e = absurd (cc)
take_all (y ∷ ys) (suc n) e = ap (λ zs. y ∷ zs) (take_all ys n e)

-- the list without the first holding that passes is the list with its first place removed
lose_place : (test : Holding → Bool) (holdings : List Holding) → remove holdings (position_or_len test holdings) ≡ without_first test holdings
lose_place test [] = refl
lose_place test (holding ∷ holdings) =
    elim (test holding) as (λ b. remove (holding ∷ holdings) (cond (not b) (1 + position_or_len test holdings) 0) ≡ cond b holdings (holding ∷ without_first test holdings))
    [ true ↦ refl | false ↦ rw one-add (ap (λ hs. holding ∷ hs) (lose_place test holdings)) ]

-- where none passes, none is lost
lose_none : (test : Holding → Bool) (holdings : List Holding) → find test holdings ≡ None → without_first test holdings ≡ holdings
lose_none test [] e = refl
lose_none test (holding ∷ holdings) e =
    elim (test holding) as (λ b. cond b (Some holding) (find test holdings) ≡ None → cond b holdings (holding ∷ without_first test holdings) ≡ holding ∷ holdings)
    [ true ↦ λ none. absurd (cc) | false ↦ λ none. ap (λ hs. holding ∷ hs) (lose_none test holdings none) ] e

some_none : {X : Type 0} {x : X} → Some x ≡ None → ⊥
some_none e = absurd (cc)

-- a position that is found is the first place
first_place : (within : Bool) (first place : ℕ) → cond within (Some first) None ≡ Some place → first ≡ place
first_place true first place e = cc
first_place false first place e = absurd (cc)

past_end : (first count : ℕ) → cond (nat_lt first count) (Some first) None ≡ None → count ≤ first
past_end first count e = elim (cases_lt first count) [
  | inl below ↦ absurd (some_none (subst (λ b. cond b (Some first) None ≡ None) (lt-ltb first count below) e))
  | inr above ↦ above
]

pub lost_at : (test : Holding → Bool) (holdings : List Holding) (place : ℕ) → position test holdings ≡ Some place → without_first test holdings ≡ remove holdings place
lost_at test holdings place e =
    let first : position_or_len test holdings ≡ place = first_place (nat_lt (position_or_len test holdings) (length holdings)) (position_or_len test holdings) place e in
    sym (lose_place test holdings) ∙ ap (remove holdings) first

pub found_at : (test : Holding → Bool) (holdings : List Holding) (place : ℕ) → position test holdings ≡ Some place → find test holdings ≡ slice_get holdings place
found_at test holdings place e =
    let first : position_or_len test holdings ≡ place = first_place (nat_lt (position_or_len test holdings) (length holdings)) (position_or_len test holdings) place e in
    find_at test holdings ∙ ap (slice_get holdings) first

pub found_nowhere : (test : Holding → Bool) (holdings : List Holding) → position test holdings ≡ None → find test holdings ≡ None
found_nowhere test holdings e =
    find_at test holdings ∙ slice_get_past holdings (position_or_len test holdings) (past_end (position_or_len test holdings) (length holdings) e)

pub lost_nowhere : (test : Holding → Bool) (holdings : List Holding) → position test holdings ≡ None → without_first test holdings ≡ holdings
lost_nowhere test holdings e = lose_none test holdings (found_nowhere test holdings e)

-- what stands at a place
pub holding_at : (holdings : List Holding) (place : ℕ) (holding : Holding) → place < length holdings → holding ≡ slice_index_or holdings place holding → slice_get holdings place ≡ Some holding
holding_at [] place holding within is = absurd (omega arith)
holding_at (h ∷ hs) zero holding within is = ap Some (sym is)
holding_at (h ∷ hs) (suc place) holding within is = holding_at hs place holding (omega arith) is

-- a write of what is there
pub set_again : {X : Type 0} (xs : List X) (i : ℕ) (d : X) → set xs i (get_or xs i d) ≡ xs
set_again [] i d = refl
set_again (x ∷ xs) zero d = refl
set_again (x ∷ xs) (suc i) d = ap (λ zs. x ∷ zs) (set_again xs i d)

-- one more entry was copied
pub copied_more : {X : Type 0} (xs old new : List X) (n m : ℕ) (x : X) → old ≡ take n xs → slice_get xs n ≡ Some x → new ≡ old ++ x ∷ [] → m ≡ n + 1 → (new ≡ take m xs) × (m ≤ length xs)
copied_more xs old new n m x copied at added more =
    let next : m ≡ suc n = more ∙ add-one n in
    let within : n < length xs = there xs n x at in
    (added ∙ ap (λ l. l ++ x ∷ []) copied ∙ sym (take_next xs n x at) ∙ ap (λ k. take k xs) (sym next), omega arith)

-- all entries were copied
pub copied_all : {X : Type 0} (xs old : List X) (n : ℕ) → old ≡ take n xs → slice_get xs n ≡ None → old ≡ xs
copied_all xs old n copied past = copied ∙ take_all xs n past

-- the first n entries are changed
abbrev pub changed_to : {X : Type 0} → ℕ → (X → X) → List X → List X
changed_to zero change xs = xs
changed_to (suc n) change [] = []
changed_to (suc n) change (x ∷ xs) = change x ∷ changed_to n change xs

-- all of them
pub changed_all : {X : Type 0} (change : X → X) (xs : List X) → changed_to (length xs) change xs ≡ map change xs
changed_all change [] = refl
changed_all change (x ∷ xs) = ap (λ ys. change x ∷ ys) (changed_all change xs)

-- none beyond them, yet
pub unchanged_at : {X : Type 0} (change : X → X) (xs : List X) (n : ℕ) (d : X) → get_or (changed_to n change xs) n d ≡ get_or xs n d
unchanged_at change [] zero d = refl
unchanged_at change [] (suc n) d = refl
unchanged_at change (x ∷ xs) zero d = refl
unchanged_at change (x ∷ xs) (suc n) d = unchanged_at change xs n d

-- the next one too
pub changed_next : {X : Type 0} (change : X → X) (xs : List X) (n : ℕ) (d : X) → n < length xs → set (changed_to n change xs) n (change (get_or xs n d)) ≡ changed_to (suc n) change xs
changed_next change [] n d within = absurd (omega arith)
changed_next change (x ∷ xs) zero d within = refl
changed_next change (x ∷ xs) (suc n) d within = ap (λ ys. change x ∷ ys) (changed_next change xs n d (omega arith))

length_changed : {X : Type 0} (change : X → X) (xs : List X) (n : ℕ) → length (changed_to n change xs) ≡ length xs
length_changed change [] zero = refl
length_changed change [] (suc n) = refl
length_changed change (x ∷ xs) zero = refl
length_changed change (x ∷ xs) (suc n) = let rest = length_changed change xs n in omega arith

-- so it is after the entry that stands there was written
pub changed_more : {X : Type 0} (change : X → X) (xs items now : List X) (n : ℕ) (x : X) → items ≡ changed_to n change xs → n < length items → get_or items n x ≡ x → now ≡ set items n (change x) → now ≡ changed_to (n + 1) change xs
changed_more {X} change xs items now n x were within at is =
    let entry : get_or xs n x ≡ x = sym (unchanged_at change xs n x) ∙ (ap (λ (ys : List X). get_or ys n x) (sym were) ∙ at) in
    let long : length (changed_to n change xs) ≡ length xs = length_changed change xs n in
    let there : length items ≡ length (changed_to n change xs) = ap length were in
    is ∙ (ap (λ (ys : List X). set ys n (change x)) were ∙ (ap (λ y. set (changed_to n change xs) n (change y)) (sym entry)
    ∙ (changed_next change xs n x (omega arith) ∙ ap (λ k. changed_to k change xs) (sym (add-one n)))))

-- or was to stay
pub changed_not : {X : Type 0} (change : X → X) (xs items : List X) (n : ℕ) (x : X) → items ≡ changed_to n change xs → n < length items → get_or items n x ≡ x → change x ≡ x → items ≡ changed_to (n + 1) change xs
changed_not {X} change xs items n x were within at same =
    changed_more change xs items items n x were within at (sym (set-get_or items n x) ∙ ap (set items n) (at ∙ sym same))

-- when all are changed, and stand in the list again
pub changed_whole : {X : Type 0} (change : X → X) (xs items rest : List X) (n m : ℕ) → items ≡ changed_to n change xs → n ≡ length xs → m ≡ length items → take m (items ++ rest) ≡ map change xs
changed_whole {X} change xs items rest n m were end all =
    ap (λ k. take k (items ++ rest)) all ∙ (take-append_seam items rest ∙ (were ∙ (ap (λ k. changed_to k change xs) end ∙ changed_all change xs)))

-- known words, each made of a place
pub all_known_map : (f : ℕ → ℕ) (places : List ℕ) → all_known (map f places) ≡ map (λ place. Some (f place)) places
all_known_map f [] = refl
all_known_map f (place ∷ places) = ap (λ (words : Words). Some (f place) ∷ words) (all_known_map f places)
