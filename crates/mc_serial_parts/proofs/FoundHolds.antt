-- A chunk that is found in a list and taken out of it: the list is without its first place.
use Rattle.std.proofs.Common.{Bool, true, false, Contains, get_or, nat_lt, ◌≡◌, ℕ, ◌<◌, ◌≤◌, cond, List, ◌++◌, length, Some, None, sym, ap, ap₂, ◌∙◌, inl, inr, arith, position, lt-ltb, le-ltb, take_all, append-nil, suc}
use Rattle.std.specs.List.{position_or_len, remove}
use Rattle.std.specs.Prelude.{find, slice_get}
use Rattle.std.proofs.lemmas.Bool.{cases_Bool, false≢true}
use Rattle.std.proofs.lemmas.List.Folds.{find_at}
use Rattle.std.proofs.lemmas.List.Quantifiers.{position-Some}
use Rattle.std.proofs.lemmas.List.Sums.{position_or_len_is}
use Rattle.std.proofs.lemmas.Option.{slice_get-get_or, slice_get_past}
use Rattle.std.proofs.lemmas.Bool.{cases_lt}
use Rattle.std.proofs.lemmas.List.{drop_all}
use Rattle.mc_pages.specs.declared.ids.ChunkId.{ChunkId}
use Rattle.mc_pages.specs.ClassState.{is_chunk, without}
use Rattle.mc_pages.proofs.Chunks.{is_chunk-same, remove-position_or_len, same_from_is_chunk}

-- a chunk is no lack of one
None≢Some : (place : ℕ) → None ≡ Some place → ⊥
None≢Some place h = cc

-- two equal options hold the same number
Some-same : (a b : ℕ) → Some a ≡ Some b → a ≡ b
Some-same a b h = cc

-- what stands behind a list's end isn't removed
remove_past : (chunks : List ChunkId) (place : ℕ) → length chunks ≤ place → remove chunks place ≡ chunks
remove_past chunks place past = ap₂ (λ (xs ys : List ChunkId). xs ++ ys) (take_all place chunks past) (drop_all (suc place) chunks (omega arith)) ∙ append-nil chunks

-- the first place of a chunk of the list
pub position_is : (chunk : ChunkId) (chunks : List ChunkId) (place : ℕ) → position (λ c. is_chunk c chunk) chunks ≡ Some place → (place ≡ position_or_len (λ c. is_chunk c chunk) chunks) × (place < length chunks)
position_is chunk chunks place found =
    let first = position_or_len (λ c. is_chunk c chunk) chunks in
    elim (cases_lt first (length chunks)) [
      | inl within ↦
          let same : place ≡ first = Some-same place first (sym found ∙ ap (λ b. cond b (Some first) None) (lt-ltb first (length chunks) within)) in
          (same, omega arith)
      | inr past ↦ absurd (None≢Some place (sym (ap (λ b. cond b (Some first) None) (le-ltb first (length chunks) past)) ∙ found))
    ]

-- a list that the chunk was not found in is the list without it
pub without-not_found : (chunk : ChunkId) (chunks : List ChunkId) → ((place : ℕ) → position (λ c. is_chunk c chunk) chunks ≡ Some place → ⊥) → without chunk chunks ≡ chunks
without-not_found chunk chunks none =
    let first = position_or_len (λ c. is_chunk c chunk) chunks in
    elim (cases_lt first (length chunks)) [
      | inl within ↦ absurd (none first (ap (λ b. cond b (Some first) None) (lt-ltb first (length chunks) within)))
      | inr past ↦ sym (remove-position_or_len chunk chunks) ∙ remove_past chunks first past
    ]

-- the list with the first place of the chunk removed is the list without it
pub remove-found : (chunk : ChunkId) (chunks : List ChunkId) (place : ℕ) → position (λ c. is_chunk c chunk) chunks ≡ Some place → remove chunks place ≡ without chunk chunks
remove-found chunk chunks place found = ap (λ (n : ℕ). remove chunks n) (position_is chunk chunks place found).0 ∙ remove-position_or_len chunk chunks

-- a test that fails before a place and passes there passes there first
placed : (q : ChunkId → Bool) (chunks : List ChunkId) (place : ℕ) (d : ChunkId) → place < length chunks → ((k : ℕ) → k < place → q (get_or chunks k d) ≡ false)
    → q (get_or chunks place d) ≡ true → position q chunks ≡ Some place
placed q chunks place d inside fails passes =
    let first : position_or_len q chunks ≡ place = position_or_len_is q chunks place d (omega (arith, inside)) fails (λ _. passes) in
    ap (λ (n : ℕ). cond (nat_lt n (length chunks)) (Some n) None) first ∙ ap (λ (b : Bool). cond b (Some place) None) (lt-ltb place (length chunks) inside)

-- where a test passes first is the element that a search by the test finds, and it stands nowhere before
pub first_place : (p : ChunkId → Bool) (chunks : List ChunkId) (place : ℕ) (d : ChunkId) → position p chunks ≡ Some place
    → (find p chunks ≡ Some (get_or chunks place d)) × (position (λ c. is_chunk c (get_or chunks place d)) chunks ≡ Some place)
first_place p chunks place d found =
    let at = position-Some p chunks place d found in
    let first : position_or_len p chunks ≡ place = position_or_len_is p chunks place d (omega (arith, at.0)) at.2 (λ _. at.1) in (
      find_at p chunks ∙ ap (λ (n : ℕ). slice_get chunks n) first ∙ slice_get-get_or chunks place d at.0,
      placed (λ c. is_chunk c (get_or chunks place d)) chunks place d at.0
          (λ k below. elim (cases_Bool (is_chunk (get_or chunks k d) (get_or chunks place d))) [
            | inl same ↦ absurd (false≢true (sym (at.2 k below) ∙ ap p (same_from_is_chunk (get_or chunks k d) (get_or chunks place d) same) ∙ at.1))
            | inr other ↦ other
          ])
          (is_chunk-same (get_or chunks place d)),
    )

-- what stands at a place is in the list
pub found_held : (chunk : ChunkId) (chunks : List ChunkId) (place : ℕ) → position (λ c. is_chunk c chunk) chunks ≡ Some place → Contains chunks chunk
found_held chunk chunks place found =
    let at = position-Some (λ c. is_chunk c chunk) chunks place chunk found in
    (place, at.0, same_from_is_chunk (get_or chunks place chunk) chunk at.1)

-- where a test passes nowhere, a search by it finds nothing
pub none_found : (p : ChunkId → Bool) (chunks : List ChunkId) → position p chunks ≡ None → find p chunks ≡ None
none_found p chunks none = elim (cases_lt (position_or_len p chunks) (length chunks)) [
  | inl within ↦
      absurd (None≢Some (position_or_len p chunks) (sym none ∙ ap (λ b. cond b (Some (position_or_len p chunks)) None) (lt-ltb (position_or_len p chunks) (length chunks) within)))
  | inr past ↦ find_at p chunks ∙ slice_get_past chunks (position_or_len p chunks) past
]
