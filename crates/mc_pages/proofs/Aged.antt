-- Lists that go by age, and which of two chunks stands before the other.
use Rattle.std.proofs.Common.{◌≡◌, ℕ, ◌≤◌, ◌<◌, Bool, true, cond, nat_lt, List, [], ◌∷◌, ◌++◌, sym, ap, subst, inl, inr, ◌⊎◌, arith, lt-ltb}
use Rattle.std.proofs.lemmas.Bool.{cases_Bool, cases_lt}
use Rattle.mc_pages.specs.declared.ids.ChunkId.{ChunkId}
use Rattle.mc_pages.specs.ClassState.{is_chunk, times_in, without, with_before}
use Rattle.mc_pages.specs.Before.{comes_before}
use Rattle.mc_pages.specs.Ages.{AreAged}
use Rattle.mc_pages.specs.Accounted.{truth}
use Rattle.mc_pages.proofs.Chunks.{times-cons, times-tail, times-push, times-without, is_chunk-same, same_from_is_chunk}
use Rattle.mc_pages.proofs.Lists.{times-with_before, without-absent}

-- a chunk of a list is its head or stands behind it
pub head_or_tail : (chunk c : ChunkId) (chunks : List ChunkId) → 1 ≤ times_in chunk (c ∷ chunks) → (c ≡ chunk) ⊎ (1 ≤ times_in chunk chunks)
head_or_tail chunk c chunks there =
    elim (cases_Bool (is_chunk c chunk)) [
      | inl same ↦ inl (same_from_is_chunk c chunk same)
      | inr other ↦ inr (omega (arith, times-tail chunk c chunks other, there))
    ]

-- what stands behind the head is in the list
pub in_tail : (chunk c : ChunkId) (chunks : List ChunkId) → 1 ≤ times_in chunk chunks → 1 ≤ times_in chunk (c ∷ chunks)
in_tail chunk c chunks there = omega (arith, times-cons chunk c chunks, there)

-- a list without a chunk has no other than before
pub times-without-le : (other chunk : ChunkId) (chunks : List ChunkId) → 1 ≤ times_in other (without chunk chunks) → 1 ≤ times_in other chunks
times-without-le other chunk chunks there =
    elim (cases_lt (times_in chunk chunks) 1) [
      | inl absent ↦ omega (arith, ap (λ (cs : List ChunkId). times_in other cs) (without-absent chunk chunks (omega (arith, absent))), there)
      | inr one ↦ omega (arith, times-without other chunk chunks one, there)
    ]

-- no chunk's age is past the clock
pub within_clock : (age : ChunkId → ℕ) (clock : ℕ) (chunks : List ChunkId) (chunk : ChunkId) → AreAged age clock chunks → 1 ≤ times_in chunk chunks → age chunk ≤ clock
within_clock age clock [] chunk aged there = absurd (omega (arith, there))
within_clock age clock (c ∷ chunks) chunk aged there =
    elim (head_or_tail chunk c chunks there) [
      | inl same ↦ omega (arith, ap age same, aged.0)
      | inr behind ↦ within_clock age clock chunks chunk aged.2 behind
    ]

-- a list goes by age where its chunks' ages are as before, and the clock is no lower
pub aged-same : (age now : ChunkId → ℕ) (clock after : ℕ) (chunks : List ChunkId) → AreAged age clock chunks → clock ≤ after → ((chunk : ChunkId) → 1 ≤ times_in chunk chunks → now chunk ≡ age chunk) → AreAged now after chunks
aged-same age now clock after [] aged on same = tt
aged-same age now clock after (c ∷ chunks) aged on same =
    let here = same c (omega (arith, times-cons c c chunks, ap truth (is_chunk-same c))) in (
      omega (arith, here, aged.0, on),
      λ behind there. omega (arith, here, same behind (in_tail behind c chunks there), aged.1 behind there),
      aged-same age now clock after chunks aged.2 on (λ chunk there. same chunk (in_tail chunk c chunks there)),
    )

-- it does without one of its chunks
pub aged-without : (age : ChunkId → ℕ) (clock : ℕ) (chunk : ChunkId) (chunks : List ChunkId) → AreAged age clock chunks → AreAged age clock (without chunk chunks)
aged-without age clock chunk [] aged = tt
aged-without age clock chunk (c ∷ chunks) aged =
    elim (cases_Bool (is_chunk c chunk)) [
      | inl same ↦ subst (λ b. AreAged age clock (cond b chunks (c ∷ without chunk chunks))) (sym same) aged.2
      | inr other ↦
          subst (λ b. AreAged age clock (cond b chunks (c ∷ without chunk chunks))) (sym other)
          (aged.0, λ behind there. aged.1 behind (times-without-le behind chunk chunks there), aged-without age clock chunk chunks aged.2)
    ]

-- and with a chunk at its end that is as young as the clock
pub aged-push : (age : ChunkId → ℕ) (clock now : ℕ) (chunk : ChunkId) (chunks : List ChunkId) → AreAged age clock chunks → clock ≤ now → age chunk ≡ clock → AreAged age now (chunks ++ chunk ∷ [])
aged-push age clock now chunk [] aged on youngest = (omega (arith, on, youngest), λ behind there. absurd (omega (arith, there)), tt)
aged-push age clock now chunk (c ∷ chunks) aged on youngest = (
  omega (arith, aged.0, on),
  λ behind there.
      elim (cases_Bool (is_chunk chunk behind)) [
        | inl same ↦ omega (arith, aged.0, youngest, ap age (same_from_is_chunk chunk behind same))
        | inr other ↦ aged.1 behind (omega (arith, there, times-push behind chunk chunks, ap truth other))
      ],
  aged-push age clock now chunk chunks aged.2 on youngest,
)

-- and with a chunk before one that is as old
pub aged-with_before : (age : ChunkId → ℕ) (clock : ℕ) (new old : ChunkId) (chunks : List ChunkId) → AreAged age clock chunks → 1 ≤ times_in old chunks → age new ≡ age old → AreAged age clock (with_before new old chunks)
aged-with_before age clock new old [] aged there equal = absurd (omega (arith, there))
aged-with_before age clock new old (c ∷ chunks) aged there equal =
    let is = λ (b : Bool). AreAged age clock (cond b (new ∷ c ∷ chunks) (c ∷ with_before new old chunks)) in
    elim (cases_Bool (is_chunk c old)) [
      | inl same ↦
          let at = ap age (same_from_is_chunk c old same) in
          subst is (sym same) (
            omega (arith, aged.0, equal, at),
            λ behind in_list.
                elim (head_or_tail behind c chunks in_list) [
                  | inl here ↦ omega (arith, equal, at, ap age here)
                  | inr rest ↦ omega (arith, equal, at, aged.1 behind rest)
                ],
            aged,
          )
      | inr other ↦
          let rest : 1 ≤ times_in old chunks = omega (arith, times-tail old c chunks other, there) in
          subst is (sym other) (
            aged.0,
            λ behind in_list.
                elim (cases_Bool (is_chunk new behind)) [
                  | inl is_new ↦ omega (arith, equal, ap age (same_from_is_chunk new behind is_new), aged.1 old rest)
                  | inr is_other ↦ aged.1 behind (omega (arith, in_list, times-with_before behind new old chunks rest, ap truth is_other))
                ],
            aged-with_before age clock new old chunks aged.2 rest equal,
          )
    ]

-- the older of two chunks of such a list stands before the other
pub older_comes_before : (age : ChunkId → ℕ) (clock : ℕ) (first second : ChunkId) (chunks : List ChunkId) → AreAged age clock chunks → 1 ≤ times_in first chunks → 1 ≤ times_in second chunks → age first < age second → comes_before first second chunks ≡ true
older_comes_before age clock first second [] aged there there-2 older = absurd (omega (arith, there))
older_comes_before age clock first second (c ∷ chunks) aged there there-2 older =
    let is = λ (b : Bool). cond b (nat_lt 0 (times_in second chunks)) (comes_before first second chunks) ≡ true in
    elim (cases_Bool (is_chunk c first)) [
      | inl same ↦
          let at = ap age (same_from_is_chunk c first same) in
          subst is (sym same)
          (elim (head_or_tail second c chunks there-2) [
            | inl here ↦ absurd (omega (arith, at, ap age here, older))
            | inr rest ↦ lt-ltb 0 (times_in second chunks) (omega (arith, rest))
          ])
      | inr other ↦
          let rest : 1 ≤ times_in first chunks = omega (arith, times-tail first c chunks other, there) in
          subst is (sym other)
          (elim (head_or_tail second c chunks there-2) [
            | inl here ↦ absurd (omega (arith, ap age here, aged.1 first rest, older))
            | inr rest-2 ↦ older_comes_before age clock first second chunks aged.2 rest rest-2 older
          ])
    ]
