-- What callers conclude from an answer of a cache.
use Rattle.std.proofs.Common.{◌≡◌, ◌∙◌, ◌⊎◌, ◌++◌, ◌+◌, ◌<◌, ◌≤◌, ⊎_elim, arith, ℕ, Bool, true, false, List, All, IfOk, Ok, Err, Result, ap, inl, inr, length, refl, subst, sym, slice_index, slice_index_or}
use Rattle.std.proofs.lemmas.Bool.{cases_lt}
use Rattle.std.proofs.lemmas.List.{get_or-append-add, get_or_past}

-- two answers that are the same
pub same_ok : {T E : Type 0} (x y : T) → ◌≡◌ {A = Result T E} (Ok x) (Ok y) → x ≡ y
same_ok x y is = cc

-- what follows from a clause of a call that was done
pub if_ok : {T E : Type 0} (r : Result T E) (P Q : T → Type 0) → ((x : T) → P x → Q x) → IfOk r P → IfOk r Q
if_ok (Ok x) P Q so p = so x p
if_ok (Err e) P Q so p = tt

-- a key was found, or it wasn't
pub found_or_not : {E : Type 0} (A B : Type 0) (r : Result Bool E) → (r ≡ Ok true → A) → ((r ≡ Ok true → ⊥) → B) → B ⊎ A
found_or_not A B (Ok true) there other = inr (there refl)
found_or_not A B (Ok false) there other = inl (other (λ is. cc))
found_or_not A B (Err e) there other = inl (other (λ is. cc))

-- what comes behind bytes is bytes
pub bytes_behind : (old value new : List ℕ) → new ≡ old ++ value → ((place : ℕ) → slice_index new place < 256) → (place : ℕ) → slice_index value place < 256
bytes_behind old value new is all place =
    subst (λ (byte : ℕ). byte < 256) (ap (λ (bytes : List ℕ). slice_index bytes (length old + place)) is ∙ get_or-append-add old value place 0) (all (length old + place))

-- the first of a list is as all are
pub first_of_all : {X : Type 0} (P : X → Type 0) (xs : List X) (x : X) → All P xs → 0 < length xs → x ≡ slice_index_or xs 0 x → P x
first_of_all P xs x all some is = subst P (sym is) (all 0 x some)

-- numbers that are bytes up to the end of a list are bytes at each place
pub bytes_throughout : (bytes : List ℕ) → ((place default : ℕ) → place < length bytes → slice_index_or bytes place default < 256) → (place : ℕ) → slice_index bytes place < 256
bytes_throughout bytes within place =
    ⊎_elim
    (λ (there : place < length bytes). within place 0 there)
    (λ (past : length bytes ≤ place). subst (λ (byte : ℕ). byte < 256) (sym (get_or_past bytes place 0 past)) (omega arith))
    (cases_lt place (length bytes))
