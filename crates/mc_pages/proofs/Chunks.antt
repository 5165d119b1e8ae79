-- How often a chunk stands in a list, and the list without it.
use Rattle.std.proofs.Common.{◌≡◌, ℕ, ◌+◌, ◌≤◌, Bool, true, false, cond, not, List, [], ◌∷◌, ◌++◌, length, Some, None, refl, sym, ap, ap₂, ◌∙◌, inl, inr, arith, slice_index_or, Contains, slice_get, position, eqb-true, eq-eqb, lt-ltb, one-add, zero-add}
use Rattle.std.specs.List.{position_or_len, remove}
use Rattle.std.proofs.lemmas.Bool.{and_parts, and_from, both_ways, cases_lt, cases_Bool}
use Rattle.std.proofs.lemmas.Option.{get_or_from_slice_get, slice_get_cases}
use Rattle.std.proofs.lemmas.List.Sums.{sum_by-cons, sum_by-append, fails_before_first, get_or-le-sum_by}
use Rattle.mc_pages.specs.declared.ids.ChunkId.{ChunkId}
use Rattle.mc_pages.specs.ClassState.{is_chunk, times_in, without}
use Rattle.mc_pages.specs.Accounted.{truth}

-- a chunk is no lack of one
pub None≢Some : (chunk : ChunkId) → None ≡ Some chunk → ⊥
None≢Some chunk h = cc

-- a chunk is itself
pub is_chunk-same : (chunk : ChunkId) → is_chunk chunk chunk ≡ true
is_chunk-same chunk = and_from _ _ (eq-eqb chunk.page chunk.page refl) (eq-eqb chunk.index chunk.index refl)

-- two names of one chunk are equal
pub same_from_is_chunk : (a b : ChunkId) → is_chunk a b ≡ true → a ≡ b
same_from_is_chunk a b h =
    let parts = and_parts _ _ h in
    let page = eqb-true a.page b.page parts.0 in
    let index = eqb-true a.index b.index parts.1 in
    let named : ℕ → ℕ → ChunkId = λ page index. record { page = page; index = index } in
    ap₂ named page index

-- one more chunk at the head
pub times-cons : (chunk c : ChunkId) (chunks : List ChunkId) → times_in chunk (c ∷ chunks) ≡ truth (is_chunk c chunk) + times_in chunk chunks
times-cons chunk c chunks = sum_by-cons (λ c. truth (is_chunk c chunk)) c chunks

-- two lists, one after the other
pub times-append : (chunk : ChunkId) (xs ys : List ChunkId) → times_in chunk (xs ++ ys) ≡ times_in chunk xs + times_in chunk ys
times-append chunk xs ys = sum_by-append (λ c. truth (is_chunk c chunk)) xs ys

-- one more chunk at the end
pub times-push : (chunk c : ChunkId) (chunks : List ChunkId) → times_in chunk (chunks ++ c ∷ []) ≡ times_in chunk chunks + truth (is_chunk c chunk)
times-push chunk c chunks = times-append chunk chunks (c ∷ []) ∙ ap (λ n. times_in chunk chunks + n) (zero-add _)

-- a chunk of the list stands there once or more
pub times_from_Contains : (chunk : ChunkId) (chunks : List ChunkId) → Contains chunks chunk → 1 ≤ times_in chunk chunks
times_from_Contains chunk chunks (k, within, at) =
    let here : truth (is_chunk (slice_index_or chunks k chunk) chunk) ≡ 1 = ap (λ (c : ChunkId). truth (is_chunk c chunk)) at ∙ ap truth (is_chunk-same chunk) in
    omega (arith, get_or-le-sum_by (λ c. truth (is_chunk c chunk)) chunks k chunk within, here)

-- the chunk at a place of the list is one of its chunks
pub Contains_from_slice_get : (chunk : ChunkId) (chunks : List ChunkId) (place : ℕ) → slice_get chunks place ≡ Some chunk → Contains chunks chunk
Contains_from_slice_get chunk chunks place h =
    elim (slice_get_cases chunks place).1 [
      | inl (x, within, _, _) ↦ (place, within, get_or_from_slice_get chunks place chunk chunk h)
      | inr (_, none) ↦ absurd (None≢Some chunk (sym none ∙ h))
    ]

-- the list without the chunk is the list with its first place removed
pub remove-position_or_len : (chunk : ChunkId) (chunks : List ChunkId) → remove chunks (position_or_len (λ c. is_chunk c chunk) chunks) ≡ without chunk chunks
remove-position_or_len chunk [] = refl
remove-position_or_len chunk (c ∷ chunks) =
    elim (is_chunk c chunk) as (λ b. remove (c ∷ chunks) (cond (not b) (1 + position_or_len (λ c. is_chunk c chunk) chunks) 0) ≡ cond b chunks (c ∷ without chunk chunks))
    [ true ↦ refl | false ↦ rw one-add (ap (λ (cs : List ChunkId). c ∷ cs) (remove-position_or_len chunk chunks)) ]

-- a chunk of the list has a first place
pub position-Contains : (chunk : ChunkId) (chunks : List ChunkId) → Contains chunks chunk → position (λ c. is_chunk c chunk) chunks ≡ Some (position_or_len (λ c. is_chunk c chunk) chunks)
position-Contains chunk chunks (k, within, at) =
    let p : ChunkId → Bool = λ c. is_chunk c chunk in
    let passes : p (slice_index_or chunks k chunk) ≡ true = rw at (is_chunk-same chunk) in
    elim (cases_lt k (position_or_len p chunks)) [
      | inl before ↦ absurd (both_ways _ (fails_before_first p chunks k chunk before) passes)
      | inr after ↦ rw (lt-ltb (position_or_len p chunks) (length chunks) (omega arith))
    ]

-- the list with the chunk's first place removed is the list without it
pub remove-position : (chunk : ChunkId) (chunks : List ChunkId) (place : ℕ) → position (λ c. is_chunk c chunk) chunks ≡ Some place → Contains chunks chunk → remove chunks place ≡ without chunk chunks
remove-position chunk chunks place h within =
    let found : place ≡ position_or_len (λ c. is_chunk c chunk) chunks = cc (position-Contains chunk chunks within) in
    rw found (remove-position_or_len chunk chunks)

-- how often a chunk stands in a list behind a head that is another
pub times-tail : (chunk c : ChunkId) (chunks : List ChunkId) → is_chunk c chunk ≡ false → times_in chunk (c ∷ chunks) ≡ times_in chunk chunks
times-tail chunk c chunks h = times-cons chunk c chunks ∙ (ap (λ b. truth b + times_in chunk chunks) h ∙ zero-add _)

-- the list without one of its chunks: that one stands there once less
pub times-without : (other chunk : ChunkId) (chunks : List ChunkId) → 1 ≤ times_in chunk chunks → times_in other (without chunk chunks) + truth (is_chunk chunk other) ≡ times_in other chunks
times-without other chunk [] h = absurd (omega arith)
times-without other chunk (c ∷ chunks) h =
    elim (cases_Bool (is_chunk c chunk)) [
      | inl same ↦
          let e : truth (is_chunk c other) ≡ truth (is_chunk chunk other) = ap (λ (x : ChunkId). truth (is_chunk x other)) (same_from_is_chunk c chunk same) in
          let left : times_in other (without chunk (c ∷ chunks)) ≡ times_in other chunks = ap (λ b. times_in other (cond b chunks (c ∷ without chunk chunks))) same in
          omega (arith, times-cons other c chunks, e, left)
      | inr differs ↦
          let rest : 1 ≤ times_in chunk chunks = omega (arith, times-tail chunk c chunks differs, h) in
          let left : times_in other (without chunk (c ∷ chunks)) ≡ times_in other (c ∷ without chunk chunks) = ap (λ b. times_in other (cond b chunks (c ∷ without chunk chunks))) differs in
          omega (arith, times-cons other c chunks, times-cons other c (without chunk chunks), times-without other chunk chunks rest, left)
    ]

-- the list without one of its chunks is shorter by one
pub length-without : (chunk : ChunkId) (chunks : List ChunkId) → 1 ≤ times_in chunk chunks → length (without chunk chunks) + 1 ≡ length chunks
length-without chunk [] h = absurd (omega arith)
length-without chunk (c ∷ chunks) h =
    elim (cases_Bool (is_chunk c chunk)) [
      | inl same ↦
          let left : length (without chunk (c ∷ chunks)) ≡ length chunks = ap (λ b. length (cond b chunks (c ∷ without chunk chunks))) same in
          omega (arith, left)
      | inr differs ↦
          let rest : 1 ≤ times_in chunk chunks = omega (arith, times-tail chunk c chunks differs, h) in
          let left : length (without chunk (c ∷ chunks)) ≡ length (c ∷ without chunk chunks) = ap (λ b. length (cond b chunks (c ∷ without chunk chunks))) differs in
          omega (arith, length-without chunk chunks rest, left)
    ]
