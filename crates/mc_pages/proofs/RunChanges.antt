-- A run after a chunk left it, and after one came into it.
use Rattle.std.proofs.Common.{◌≡◌, ◌≢◌, ◌≤◌, Bool, cond, List, [], ◌∷◌, ◌++◌, Option, Some, None, sym, ap, ◌∙◌, subst, inl, inr, arith}
use Rattle.std.proofs.lemmas.Bool.{cases_Bool}
use Rattle.mc_pages.specs.declared.ids.ChunkId.{ChunkId}
use Rattle.mc_pages.specs.ClassState.{is_chunk, times_in, without, with_before}
use Rattle.mc_pages.specs.Linked.{IsChain}
use Rattle.mc_pages.proofs.Chunks.{same_from_is_chunk, times-tail}
use Rattle.mc_pages.proofs.Runs.{Links, IsOutside, Some≢None, None≢Some, times-head, times-behind, differs, run_frame, before_in, behind_in, last_in}

-- no chunk stands twice in the list
abbrev pub IsOnce : List ChunkId → Type 0
IsOnce chunks = (c : ChunkId) → times_in c chunks ≤ 1

-- a leads to b now, and nothing else has changed
pub record Joins (n p n' p' : Links) (a b : Option ChunkId) : Type 0 where
  pub forth : n' a ≡ b
  pub back : p' b ≡ a
  pub next : (x : Option ChunkId) → x ≢ a → n' x ≡ n x
  pub previous : (x : Option ChunkId) → x ≢ b → p' x ≡ p x

-- a chunk stands between a and b now, and nothing else has changed
pub record Comes (n p n' p' : Links) (a : Option ChunkId) (chunk : ChunkId) (b : Option ChunkId) : Type 0 where
  pub to : n' a ≡ Some chunk
  pub on : n' (Some chunk) ≡ b
  pub from : p' (Some chunk) ≡ a
  pub back : p' b ≡ Some chunk
  pub next : (x : Option ChunkId) → x ≢ a → x ≢ Some chunk → n' x ≡ n x
  pub previous : (x : Option ChunkId) → x ≢ b → x ≢ Some chunk → p' x ≡ p x

-- the rest of a list has no chunk twice
pub once-rest : (c : ChunkId) (cs : List ChunkId) → IsOnce (c ∷ cs) → IsOnce cs
once-rest c cs once x = omega (arith, once x, times-behind x c cs)

-- the head isn't in the rest
pub head_absent : (c : ChunkId) (cs : List ChunkId) → IsOnce (c ∷ cs) → times_in c cs ≡ 0
head_absent c cs once = omega (arith, once c, times-head c cs)

pub outside-head : (c : ChunkId) (cs : List ChunkId) → IsOnce (c ∷ cs) → IsOutside (Some c) cs
outside-head c cs once x there = differs x c cs there (head_absent c cs once)

pub outside-rest : (link : Option ChunkId) (c : ChunkId) (cs : List ChunkId) → IsOutside link (c ∷ cs) → IsOutside link cs
outside-rest link c cs outside x there = outside x (omega (arith, there, times-behind x c cs))

-- the first chunk of what follows is left out
run_skip : (n p n' p' : Links) (from : Option ChunkId) (c : ChunkId) (cs : List ChunkId) → IsOutside from cs → IsOnce cs → Joins n p n' p' from (n (Some c)) → IsChain n p (Some c) cs → IsChain n' p' from cs
run_skip n p n' p' from c [] outside once joins run = (joins.forth ∙ run.0, ap p' (sym run.0) ∙ joins.back)
run_skip n p n' p' from c (d ∷ ds) outside once joins run =
    let here : 1 ≤ times_in d (d ∷ ds) = omega (arith, times-head d ds) in
    let apart : (x : Option ChunkId) → x ≢ Some d → p' x ≡ p x = λ x h. joins.previous x (λ e. h (e ∙ run.0)) in (
      joins.forth ∙ run.0,
      ap p' (sym run.0) ∙ joins.back,
      run_frame n p n' p' (Some d) ds
          (joins.next (Some d) (outside d here))
          (apart None (None≢Some d))
          (λ x there. joins.next (Some x) (outside x (omega (arith, there, times-behind x d ds))))
          (λ x there. apart (Some x) (outside-head d ds once x there))
          run.2,
    )

-- what a run comes from doesn't stand before one of its later chunks
from_apart : (n p : Links) (from : Option ChunkId) (c : ChunkId) (cs : List ChunkId) (chunk : ChunkId) → IsOutside from (c ∷ cs) → IsChain n p (Some c) cs → 1 ≤ times_in chunk cs → from ≢ p (Some chunk)
from_apart n p from c cs chunk outside run there h =
    elim (before_in n p (Some c) cs chunk run there) [
      | inl first ↦ outside c (omega (arith, times-head c cs)) (sym (h ∙ first))
      | inr (x, is, within) ↦ outside x (omega (arith, within, times-behind x c cs)) (sym (h ∙ is))
    ]

-- the head doesn't stand behind a later chunk
head_apart : (n p : Links) (c : ChunkId) (cs : List ChunkId) (chunk : ChunkId) → IsOnce (c ∷ cs) → IsChain n p (Some c) cs → 1 ≤ times_in chunk cs → Some c ≢ n (Some chunk)
head_apart n p c cs chunk once run there h =
    elim (behind_in n p (Some c) cs chunk run there) [
      | inl last ↦ Some≢None c (h ∙ last)
      | inr (x, is, within) ↦ outside-head c cs once x within (sym (h ∙ is))
    ]

-- a chunk has left the run
pub run_without : (n p n' p' : Links) (from : Option ChunkId) (chunks : List ChunkId) (chunk : ChunkId) → 1 ≤ times_in chunk chunks → IsOnce chunks → IsOutside from chunks → Joins n p n' p' (p (Some chunk)) (n (Some chunk)) → IsChain n p from chunks → IsChain n' p' from (without chunk chunks)
run_without n p n' p' from [] chunk there once outside joins run = absurd (omega (arith, there))
run_without n p n' p' from (c ∷ cs) chunk there once outside joins run =
    let left : Bool → Type 0 = λ b. IsChain n' p' from (cond b cs (c ∷ without chunk cs)) in
    elim (cases_Bool (is_chunk c chunk)) [
      | inl same ↦
          let e = same_from_is_chunk c chunk same in
          let here : Joins n p n' p' from (n (Some c)) =
          subst (λ (a : Option ChunkId). Joins n p n' p' a (n (Some c))) run.1 (subst (λ (x : ChunkId). Joins n p n' p' (p (Some x)) (n (Some x))) (sym e) joins) in
          subst left (sym same) (run_skip n p n' p' from c cs (outside-rest from c cs outside) (once-rest c cs once) here run.2)
      | inr other ↦
          let rest : 1 ≤ times_in chunk cs = omega (arith, there, times-tail chunk c cs other) in
          subst left (sym other) (
            joins.next from (from_apart n p from c cs chunk outside run.2 rest) ∙ run.0,
            joins.previous (Some c) (head_apart n p c cs chunk once run.2 rest) ∙ run.1,
            run_without n p n' p' (Some c) cs chunk rest (once-rest c cs once) (outside-head c cs once) joins run.2,
          )
    ]

-- a chunk comes first
pub run_cons : (n p n' p' : Links) (from : Option ChunkId) (chunk : ChunkId) (chunks : List ChunkId) → IsOutside from chunks → IsOutside (Some chunk) chunks → IsOnce chunks → Comes n p n' p' from chunk (n from) → IsChain n p from chunks → IsChain n' p' from (chunk ∷ chunks)
run_cons n p n' p' from chunk [] outside new once comes run = (comes.to, comes.from, (comes.on ∙ run.0, ap p' (sym run.0) ∙ comes.back))
run_cons n p n' p' from chunk (d ∷ ds) outside new once comes run =
    let here : 1 ≤ times_in d (d ∷ ds) = omega (arith, times-head d ds) in
    let apart : (x : Option ChunkId) → x ≢ Some d → x ≢ Some chunk → p' x ≡ p x = λ x h. comes.previous x (λ e. h (e ∙ run.0)) in
    let later : (x : ChunkId) → 1 ≤ times_in x ds → 1 ≤ times_in x (d ∷ ds) = λ x there. omega (arith, there, times-behind x d ds) in (
      comes.to,
      comes.from,
      (
        comes.on ∙ run.0,
        ap p' (sym run.0) ∙ comes.back,
        run_frame n p n' p' (Some d) ds
            (comes.next (Some d) (outside d here) (new d here))
            (apart None (None≢Some d) (None≢Some chunk))
            (λ x there. comes.next (Some x) (outside x (later x there)) (new x (later x there)))
            (λ x there. apart (Some x) (outside-head d ds once x there) (new x (later x there)))
            run.2,
      ),
    )

-- a chunk comes directly before another
pub run_before : (n p n' p' : Links) (from : Option ChunkId) (chunks : List ChunkId) (chunk old : ChunkId) → 1 ≤ times_in old chunks → IsOnce chunks → IsOutside from chunks → IsOutside (Some chunk) chunks → from ≢ Some chunk → Comes n p n' p' (p (Some old)) chunk (Some old) → IsChain n p from chunks → IsChain n' p' from (with_before chunk old chunks)
run_before n p n' p' from [] chunk old there once outside new apart comes run = absurd (omega (arith, there))
run_before n p n' p' from (c ∷ cs) chunk old there once outside new apart comes run =
    let here : 1 ≤ times_in c (c ∷ cs) = omega (arith, times-head c cs) in
    let placed : Bool → Type 0 = λ b. IsChain n' p' from (cond b (chunk ∷ c ∷ cs) (c ∷ with_before chunk old cs)) in
    elim (cases_Bool (is_chunk c old)) [
      | inl same ↦
          let e = same_from_is_chunk c old same in
          let first : Comes n p n' p' (p (Some c)) chunk (Some c) = subst (λ (x : ChunkId). Comes n p n' p' (p (Some x)) chunk (Some x)) (sym e) comes in
          let between : Comes n p n' p' from chunk (n from) = subst (λ (b : Option ChunkId). Comes n p n' p' from chunk b) (sym run.0) (subst (λ (a : Option ChunkId). Comes n p n' p' a chunk (Some c)) run.1 first) in
          subst placed (sym same) (run_cons n p n' p' from chunk (c ∷ cs) outside new once between run)
      | inr other ↦
          let rest : 1 ≤ times_in old cs = omega (arith, there, times-tail old c cs other) in
          subst placed (sym other) (
            comes.next from (from_apart n p from c cs old outside run.2 rest) apart ∙ run.0,
            comes.previous (Some c) (λ h. outside-head c cs once old rest (sym h)) (new c here) ∙ run.1,
            run_before n p n' p' (Some c) cs chunk old rest (once-rest c cs once) (outside-head c cs once) (outside-rest (Some chunk) c cs new) (new c here) comes run.2,
          )
    ]

-- a chunk comes last
pub run_push : (n p n' p' : Links) (from : Option ChunkId) (chunks : List ChunkId) (chunk : ChunkId) → IsOnce chunks → IsOutside from chunks → IsOutside (Some chunk) chunks → from ≢ Some chunk → Comes n p n' p' (p None) chunk None → IsChain n p from chunks → IsChain n' p' from (chunks ++ chunk ∷ [])
run_push n p n' p' from [] chunk once outside new apart comes run = (ap n' (sym run.1) ∙ comes.to, comes.from ∙ run.1, (comes.on, comes.back))
run_push n p n' p' from (c ∷ cs) chunk once outside new apart comes run =
    let here : 1 ≤ times_in c (c ∷ cs) = omega (arith, times-head c cs) in
    let last : from ≢ p None = λ h. elim (last_in n p (Some c) cs run.2) [
      | inl first ↦ outside c here (sym (h ∙ first))
      | inr (x, is, within) ↦ outside x (omega (arith, within, times-behind x c cs)) (sym (h ∙ is))
    ] in (
      comes.next from last apart ∙ run.0,
      comes.previous (Some c) (Some≢None c) (new c here) ∙ run.1,
      run_push n p n' p' (Some c) cs chunk (once-rest c cs once) (outside-head c cs once) (outside-rest (Some chunk) c cs new) (new c here) comes run.2,
    )
