-- Runs of chunks, of which one is taken out or to which one is added.
use Rattle.std.proofs.Common.{◌≡◌, ◌≢◌, ◌+◌, ◌≤◌, List, [], ◌∷◌, length, Option, Some, None, refl, sym, ap, ◌∙◌, inl, inr, arith, ◌⊎◌}
use Rattle.std.proofs.lemmas.Bool.{cases_Bool}
use Rattle.mc_pages.specs.declared.ids.ChunkId.{ChunkId}
use Rattle.mc_pages.specs.ClassState.{is_chunk, times_in}
use Rattle.mc_pages.specs.Accounted.{truth}
use Rattle.mc_pages.specs.Linked.{walk, IsChain}
use Rattle.mc_pages.proofs.Chunks.{is_chunk-same, same_from_is_chunk, times-cons, times-tail}

-- where a link leads to
abbrev pub Links : Type 0
Links = Option ChunkId → Option ChunkId

-- a chunk is no lack of one
pub Some≢None : (chunk : ChunkId) → Some chunk ≢ None
Some≢None chunk h = cc

pub None≢Some : (chunk : ChunkId) → None ≢ Some chunk
None≢Some chunk h = cc

-- two links to one chunk
pub same_Some : (a b : ChunkId) → Some a ≡ Some b → a ≡ b
same_Some a b h = cc

-- the head is in the list
pub times-head : (chunk : ChunkId) (chunks : List ChunkId) → times_in chunk (chunk ∷ chunks) ≡ 1 + times_in chunk chunks
times-head chunk chunks = times-cons chunk chunk chunks ∙ ap (λ b. truth b + times_in chunk chunks) (is_chunk-same chunk)

-- what stands behind the head is in the list
pub times-behind : (chunk c : ChunkId) (chunks : List ChunkId) → times_in chunk chunks ≤ times_in chunk (c ∷ chunks)
times-behind chunk c chunks = omega (arith, times-cons chunk c chunks)

-- a chunk that a list has is another than one that it hasn't
pub differs : (a b : ChunkId) (chunks : List ChunkId) → 1 ≤ times_in a chunks → times_in b chunks ≡ 0 → Some a ≢ Some b
differs a b chunks there absent h = absurd (omega (arith, there, absent, ap (λ (c : ChunkId). times_in c chunks) (same_Some a b h)))

-- a run depends on the links of its chunks alone
pub run_frame : (n p n' p' : Links) (from : Option ChunkId) (chunks : List ChunkId) → n' from ≡ n from → p' None ≡ p None → ((c : ChunkId) → 1 ≤ times_in c chunks → n' (Some c) ≡ n (Some c)) → ((c : ChunkId) → 1 ≤ times_in c chunks → p' (Some c) ≡ p (Some c)) → IsChain n p from chunks → IsChain n' p' from chunks
run_frame n p n' p' from [] first last next previous run = (first ∙ run.0, last ∙ run.1)
run_frame n p n' p' from (c ∷ cs) first last next previous run =
    let here : 1 ≤ times_in c (c ∷ cs) = omega (arith, times-head c cs) in (
      first ∙ run.0,
      previous c here ∙ run.1,
      run_frame n p n' p' (Some c) cs (next c here) last
          (λ x there. next x (omega (arith, there, times-behind x c cs)))
          (λ x there. previous x (omega (arith, there, times-behind x c cs)))
          run.2,
    )

-- what stands before a chunk of a run is a chunk of it, or what it comes from
pub before_in : (n p : Links) (from : Option ChunkId) (chunks : List ChunkId) (chunk : ChunkId) → IsChain n p from chunks → 1 ≤ times_in chunk chunks → (p (Some chunk) ≡ from) ⊎ ((c : ChunkId) × (p (Some chunk) ≡ Some c) × (1 ≤ times_in c chunks))
before_in n p from [] chunk run there = absurd (omega (arith, there))
before_in n p from (c ∷ cs) chunk run there =
    elim (cases_Bool (is_chunk c chunk)) [
      | inl same ↦ inl (ap (λ (x : ChunkId). p (Some x)) (sym (same_from_is_chunk c chunk same)) ∙ run.1)
      | inr other ↦
          elim (before_in n p (Some c) cs chunk run.2 (omega (arith, there, times-tail chunk c cs other))) [
            | inl first ↦ inr (c, first, omega (arith, times-head c cs))
            | inr (x, h, within) ↦ inr (x, h, omega (arith, within, times-behind x c cs))
          ]
    ]

-- what stands behind a chunk of a run is a chunk of it, or nothing
pub behind_in : (n p : Links) (from : Option ChunkId) (chunks : List ChunkId) (chunk : ChunkId) → IsChain n p from chunks → 1 ≤ times_in chunk chunks → (n (Some chunk) ≡ None) ⊎ ((c : ChunkId) × (n (Some chunk) ≡ Some c) × (1 ≤ times_in c chunks))
behind_in n p from [] chunk run there = absurd (omega (arith, there))
behind_in n p from (c ∷ []) chunk run there =
    elim (cases_Bool (is_chunk c chunk)) [
      | inl same ↦ inl (ap (λ (x : ChunkId). n (Some x)) (sym (same_from_is_chunk c chunk same)) ∙ run.2.0)
      | inr other ↦ absurd (omega (arith, there, times-tail chunk c [] other))
    ]
behind_in n p from (c ∷ d ∷ cs) chunk run there =
    elim (cases_Bool (is_chunk c chunk)) [
      | inl same ↦ inr (d, ap (λ (x : ChunkId). n (Some x)) (sym (same_from_is_chunk c chunk same)) ∙ run.2.0, omega (arith, times-head d cs, times-behind d c (d ∷ cs)))
      | inr other ↦
          elim (behind_in n p (Some c) (d ∷ cs) chunk run.2 (omega (arith, there, times-tail chunk c (d ∷ cs) other))) [
            | inl last ↦ inl last
            | inr (x, h, within) ↦ inr (x, h, omega (arith, within, times-behind x c (d ∷ cs)))
          ]
    ]

-- what stands at the end of a run is a chunk of it, or what it comes from
pub last_in : (n p : Links) (from : Option ChunkId) (chunks : List ChunkId) → IsChain n p from chunks → (p None ≡ from) ⊎ ((c : ChunkId) × (p None ≡ Some c) × (1 ≤ times_in c chunks))
last_in n p from [] run = inl run.1
last_in n p from (c ∷ cs) run =
    elim (last_in n p (Some c) cs run.2) [
      | inl first ↦ inr (c, first, omega (arith, times-head c cs))
      | inr (x, h, within) ↦ inr (x, h, omega (arith, within, times-behind x c cs))
    ]

-- a link that isn't to a chunk of the list
abbrev pub IsOutside : Option ChunkId → List ChunkId → Type 0
IsOutside link chunks = (c : ChunkId) → 1 ≤ times_in c chunks → Some c ≢ link

-- a run that goes along is the list
pub walk_run : (n p : Links) (from : Option ChunkId) (chunks : List ChunkId) → IsChain n p from chunks → walk (λ c. n (Some c)) (length chunks) (n from) ≡ chunks
walk_run n p from [] run = refl
walk_run n p from (c ∷ cs) run = rw run.0 (ap (λ (xs : List ChunkId). c ∷ xs) (walk_run n p (Some c) cs run.2))
