-- The workers' lists of holds as vectors: what changes when a hold is taken or given back.
use Rattle.std.proofs.Common.{◌≡◌, ℕ, ◌+◌, ◌-◌, ◌<◌, List, [], ◌∷◌, ◌++◌, length, get_or, set, suc, zero, Contains, Option, Some, None, refl, ap, sym, ◌∙◌, arith, reverse, map, find, inl, inr}
use Rattle.std.specs.Option.{option_map}
use Rattle.std.specs.Prelude.{Bool}
use Rattle.std.specs.List.{remove}
use Rattle.std.proofs.lemmas.Bool.{cases_Bool}
use Rattle.std.proofs.lemmas.List.{map-set, set-get_or, get_or-map, reverse-append, length-reverse, append-nil}
use Rattle.std.proofs.lemmas.List.Edits.{remove-append_left, remove-append_right}
use Rattle.mc_pages.specs.declared.ids.ChunkId.{ChunkId}
use Rattle.mc_serial_spec.specs.Holds.{held_by}

-- a vector is replaced, and f says what each means
module _ {A : Type 0} (f : A → List ChunkId) (vectors : List A) (worker : ℕ) (old new : A) (inside : worker < length vectors)
    (is : old ≡ get_or vectors worker old) where
  pub held_now : f old ≡ held_by (map f vectors) worker
  held_now = ap f is ∙ sym (get_or-map f vectors worker old [] inside)

  pub view_set : (change : List ChunkId → List ChunkId) → f new ≡ change (f old)
      → map f (set vectors worker new) ≡ set (map f vectors) worker (change (held_by (map f vectors) worker))
  view_set change means = map-set f vectors worker new ∙ ap (λ l. set (map f vectors) worker l) (means ∙ ap change held_now)

  pub view_same : f new ≡ f old → map f (set vectors worker new) ≡ map f vectors
  view_same means =
      map-set f vectors worker new ∙ ap (λ l. set (map f vectors) worker l) (means ∙ held_now) ∙ set-get_or (map f vectors) worker []

-- a hold is pushed
pub reverse-push : (chunks : List ChunkId) (chunk : ChunkId) → reverse (chunks ++ chunk ∷ []) ≡ chunk ∷ reverse chunks
reverse-push chunks chunk = reverse-append chunks (chunk ∷ [])

-- from the back as from the front
pub reverse-remove : (chunks : List ChunkId) (i k : ℕ) → i + k + 1 ≡ length chunks → reverse (remove chunks i) ≡ remove (reverse chunks) k
reverse-remove [] i k all = absurd (omega arith)
reverse-remove (c ∷ chunks) zero k all =
    let long : length (reverse chunks) ≡ k = length-reverse chunks ∙ omega arith in
    let none : k - k ≡ 0 = omega arith in
    sym (ap (λ l. remove l k) (reverse-append (c ∷ []) chunks) ∙ remove-append_right (reverse chunks) (c ∷ []) k k long (omega arith)
    ∙ ap (λ i. reverse chunks ++ remove (c ∷ []) i) none ∙ append-nil (reverse chunks))
reverse-remove (c ∷ chunks) (suc i) k all =
    let inside : k < length (reverse chunks) = omega (arith, length-reverse chunks) in
    reverse-append (c ∷ []) (remove chunks i) ∙ ap (λ l. l ++ c ∷ []) (reverse-remove chunks i k (omega arith))
    ∙ sym (ap (λ l. remove l k) (reverse-append (c ∷ []) chunks) ∙ remove-append_left (reverse chunks) (c ∷ []) k inside)

-- what a search finds is in the list
pub found_there : {X : Type 0} (p : X → Bool) (xs : List X) (x : X) → find p xs ≡ Some x → Contains xs x
found_there p [] x found = cc
found_there p (y ∷ xs) x found = elim (cases_Bool (p y)) [
  | inl passes ↦
      let here : Some y ≡ Some x = rw passes at found in
      (0, omega arith, (cc))
  | inr fails ↦
      let rest : Contains xs x = found_there p xs x (rw fails at found) in
      (suc rest.0, omega (arith, rest.1), rest.2)
]

-- an option of what it has
pub option_same : {X : Type 0} (found : Option X) → option_map (λ x. x) found ≡ found
option_same None = refl
option_same (Some x) = refl
