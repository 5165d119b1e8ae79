-- A chunk put before another in a list, and a list without a chunk that it doesn't have.
use Rattle.std.proofs.Common.{◌≡◌, ◌+◌, ◌≤◌, cond, List, [], ◌∷◌, length, refl, ap, ◌∙◌, inl, inr, arith}
use Rattle.std.proofs.lemmas.Bool.{cases_Bool, cases_lt}
use Rattle.mc_pages.specs.declared.ids.ChunkId.{ChunkId}
use Rattle.mc_pages.specs.ClassState.{is_chunk, times_in, without, with_before}
use Rattle.mc_pages.specs.Accounted.{truth}
use Rattle.mc_pages.proofs.Chunks.{times-cons, times-tail, times-without, length-without}

-- the list with one more chunk before one of its chunks: that one stands there once more
pub times-with_before : (other new old : ChunkId) (chunks : List ChunkId) → 1 ≤ times_in old chunks → times_in other (with_before new old chunks) ≡ times_in other chunks + truth (is_chunk new other)
times-with_before other new old [] h = absurd (omega arith)
times-with_before other new old (c ∷ chunks) h =
    elim (cases_Bool (is_chunk c old)) [
      | inl same ↦
          let here : times_in other (with_before new old (c ∷ chunks)) ≡ times_in other (new ∷ c ∷ chunks) = ap (λ b. times_in other (cond b (new ∷ c ∷ chunks) (c ∷ with_before new old chunks))) same in
          omega (arith, here, times-cons other new (c ∷ chunks))
      | inr differs ↦
          let rest : 1 ≤ times_in old chunks = omega (arith, times-tail old c chunks differs, h) in
          let here : times_in other (with_before new old (c ∷ chunks)) ≡ times_in other (c ∷ with_before new old chunks) = ap (λ b. times_in other (cond b (new ∷ c ∷ chunks) (c ∷ with_before new old chunks))) differs in
          omega (arith, here, times-cons other c chunks, times-cons other c (with_before new old chunks), times-with_before other new old chunks rest)
    ]

-- the list with one more chunk before one of its chunks is longer by one
pub length-with_before : (new old : ChunkId) (chunks : List ChunkId) → 1 ≤ times_in old chunks → length (with_before new old chunks) ≡ length chunks + 1
length-with_before new old [] h = absurd (omega arith)
length-with_before new old (c ∷ chunks) h =
    elim (cases_Bool (is_chunk c old)) [
      | inl same ↦
          let here : length (with_before new old (c ∷ chunks)) ≡ length (new ∷ c ∷ chunks) = ap (λ b. length (cond b (new ∷ c ∷ chunks) (c ∷ with_before new old chunks))) same in
          omega (arith, here)
      | inr differs ↦
          let rest : 1 ≤ times_in old chunks = omega (arith, times-tail old c chunks differs, h) in
          let here : length (with_before new old (c ∷ chunks)) ≡ length (c ∷ with_before new old chunks) = ap (λ b. length (cond b (new ∷ c ∷ chunks) (c ∷ with_before new old chunks))) differs in
          omega (arith, here, length-with_before new old chunks rest)
    ]

-- a list that doesn't have the chunk stays as it is
pub without-absent : (chunk : ChunkId) (chunks : List ChunkId) → times_in chunk chunks ≡ 0 → without chunk chunks ≡ chunks
without-absent chunk [] h = refl
without-absent chunk (c ∷ chunks) h =
    elim (cases_Bool (is_chunk c chunk)) [
      | inl same ↦ absurd (omega (arith, times-cons chunk c chunks, ap truth same, h))
      | inr differs ↦
          let rest : times_in chunk chunks ≡ 0 = omega (arith, times-tail chunk c chunks differs, h) in
          ap (λ b. cond b chunks (c ∷ without chunk chunks)) differs ∙ ap (λ (cs : List ChunkId). c ∷ cs) (without-absent chunk chunks rest)
    ]

-- a chunk that stands in one of two lists, and there once, leaves them
pub times-without_one : (other chunk : ChunkId) (free order : List ChunkId) → times_in chunk free + times_in chunk order ≡ 1 → times_in other (without chunk free) + times_in other (without chunk order) + truth (is_chunk chunk other) ≡ times_in other free + times_in other order
times-without_one other chunk free order one =
    elim (cases_lt (times_in chunk free) 1) [
      | inl absent ↦ omega (arith, ap (λ (cs : List ChunkId). times_in other cs) (without-absent chunk free (omega arith)), times-without other chunk order (omega arith))
      | inr there ↦ omega (arith, ap (λ (cs : List ChunkId). times_in other cs) (without-absent chunk order (omega arith)), times-without other chunk free there)
    ]

-- the two lists are shorter by one then
pub length-without_one : (chunk : ChunkId) (free order : List ChunkId) → times_in chunk free + times_in chunk order ≡ 1 → length (without chunk free) + length (without chunk order) + 1 ≡ length free + length order
length-without_one chunk free order one =
    elim (cases_lt (times_in chunk free) 1) [
      | inl absent ↦ omega (arith, ap length (without-absent chunk free (omega arith)), length-without chunk order (omega arith))
      | inr there ↦ omega (arith, ap length (without-absent chunk order (omega arith)), length-without chunk free there)
    ]
