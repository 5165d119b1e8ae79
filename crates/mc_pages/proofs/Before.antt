-- Which of two chunks stands before the other, in lists that change.
use Rattle.std.proofs.Common.{◌≡◌, ◌≢◌, ◌≤◌, Bool, true, false, cond, nat_lt, List, [], ◌∷◌, sym, ap, ◌∙◌, subst, inl, inr, arith, lt-ltb}
use Rattle.std.proofs.lemmas.Bool.{cases_Bool, cases_lt, both_ways, ltb-true}
use Rattle.mc_pages.specs.declared.ids.ChunkId.{ChunkId}
use Rattle.mc_pages.specs.ClassState.{is_chunk, times_in, without}
use Rattle.mc_pages.specs.Before.{comes_before, HasEachOnce}
use Rattle.mc_pages.specs.Accounted.{truth}
use Rattle.mc_pages.proofs.Chunks.{times-cons, times-without, same_from_is_chunk}
use Rattle.mc_pages.proofs.Lists.{without-absent}

-- at the head of a list
head_is : (first second c : ChunkId) (chunks : List ChunkId) → is_chunk c first ≡ true → comes_before first second (c ∷ chunks) ≡ nat_lt 0 (times_in second chunks)
head_is first second c chunks same = ap (λ (b : Bool). cond b (nat_lt 0 (times_in second chunks)) (comes_before first second chunks)) same

-- behind another chunk
tail_is : (first second c : ChunkId) (chunks : List ChunkId) → is_chunk c first ≡ false → comes_before first second (c ∷ chunks) ≡ comes_before first second chunks
tail_is first second c chunks other = ap (λ (b : Bool). cond b (nat_lt 0 (times_in second chunks)) (comes_before first second chunks)) other

-- a chunk that stands before another is there, and so is that one
pub both_there : (first second : ChunkId) (chunks : List ChunkId) → comes_before first second chunks ≡ true → (1 ≤ times_in first chunks) × (1 ≤ times_in second chunks)
both_there first second [] before = absurd (both_ways _ (λ i. false) before)
both_there first second (c ∷ chunks) before =
    elim (cases_Bool (is_chunk c first)) [
      | inl same ↦
          let behind = ltb-true 0 (times_in second chunks) (sym (head_is first second c chunks same) ∙ before) in
          (omega (arith, times-cons first c chunks, ap truth same), omega (arith, times-cons second c chunks, behind))
      | inr other ↦
          let rest = both_there first second chunks (sym (tail_is first second c chunks other) ∙ before) in
          (omega (arith, times-cons first c chunks, rest.0), omega (arith, times-cons second c chunks, rest.1))
    ]

-- what stands behind the head stands once there
each_once_behind : (c : ChunkId) (chunks : List ChunkId) → HasEachOnce (c ∷ chunks) → HasEachOnce chunks
each_once_behind c chunks once = λ chunk. omega (arith, once chunk, times-cons chunk c chunks)

-- of two chunks at most one stands before the other
pub not_both_before : (a b : ChunkId) (chunks : List ChunkId) → HasEachOnce chunks → comes_before a b chunks ≡ true → comes_before b a chunks ≡ true → ⊥
not_both_before a b [] once before behind = both_ways _ (λ i. false) before
not_both_before a b (c ∷ chunks) once before behind =
    elim (cases_Bool (is_chunk c a)) [
      | inl is_a ↦ elim (cases_Bool (is_chunk c b)) [
        | inl is_b ↦
            let there = ltb-true 0 (times_in a chunks) (sym (head_is b a c chunks is_b) ∙ behind) in
            omega (arith, there, once a, times-cons a c chunks, ap truth is_a)
        | inr other ↦
            let there = (both_there b a chunks (sym (tail_is b a c chunks other) ∙ behind)).1 in
            omega (arith, there, once a, times-cons a c chunks, ap truth is_a)
      ]
      | inr not_a ↦
          let rest = sym (tail_is a b c chunks not_a) ∙ before in
          elim (cases_Bool (is_chunk c b)) [
            | inl is_b ↦
                let there = (both_there a b chunks rest).1 in
                omega (arith, there, once b, times-cons b c chunks, ap truth is_b)
            | inr not_b ↦ not_both_before a b chunks (each_once_behind c chunks once) rest (sym (tail_is b a c chunks not_b) ∙ behind)
          ]
    ]

-- what stands before a chunk stands before those behind it
pub before-trans : (a b c : ChunkId) (chunks : List ChunkId) → HasEachOnce chunks → comes_before a b chunks ≡ true → comes_before b c chunks ≡ true → comes_before a c chunks ≡ true
before-trans a b c [] once before behind = absurd (both_ways _ (λ i. false) before)
before-trans a b c (d ∷ chunks) once before behind =
    elim (cases_Bool (is_chunk d b)) [
      | inl is_b ↦
          let there = ltb-true 0 (times_in c chunks) (sym (head_is b c d chunks is_b) ∙ behind) in
          elim (cases_Bool (is_chunk d a)) [
            | inl is_a ↦ head_is a c d chunks is_a ∙ lt-ltb 0 (times_in c chunks) there
            | inr not_a ↦
                let again = (both_there a b chunks (sym (tail_is a b d chunks not_a) ∙ before)).1 in
                absurd (omega (arith, again, once b, times-cons b d chunks, ap truth is_b))
          ]
      | inr not_b ↦
          let rest = sym (tail_is b c d chunks not_b) ∙ behind in
          elim (cases_Bool (is_chunk d a)) [
            | inl is_a ↦ head_is a c d chunks is_a ∙ lt-ltb 0 (times_in c chunks) (omega (arith, (both_there b c chunks rest).1))
            | inr not_a ↦
                tail_is a c d chunks not_a ∙ before-trans a b c chunks (each_once_behind d chunks once) (sym (tail_is a b d chunks not_a) ∙ before) rest
          ]
    ]

-- a chunk that isn't the one that left the list stands there as often
times-without_other : (other chunk : ChunkId) (chunks : List ChunkId) → chunk ≢ other → times_in other (without chunk chunks) ≡ times_in other chunks
times-without_other other chunk chunks differs =
    elim (cases_Bool (is_chunk chunk other)) [
      | inl same ↦ absurd (differs (same_from_is_chunk chunk other same))
      | inr apart ↦
          elim (cases_lt (times_in chunk chunks) 1) [
            | inl absent ↦ ap (λ (cs : List ChunkId). times_in other cs) (without-absent chunk chunks (omega (arith, absent)))
            | inr there ↦ omega (arith, times-without other chunk chunks there, ap truth apart)
          ]
    ]

-- two chunks stay where a third leaves the list
pub before-without : (a b gone : ChunkId) (chunks : List ChunkId) → gone ≢ a → gone ≢ b → comes_before a b chunks ≡ true → comes_before a b (without gone chunks) ≡ true
before-without a b gone [] not_a not_b before = absurd (both_ways _ (λ i. false) before)
before-without a b gone (c ∷ chunks) not_a not_b before =
    let after = λ (left : Bool). comes_before a b (cond left chunks (c ∷ without gone chunks)) ≡ true in
    elim (cases_Bool (is_chunk c gone)) [
      | inl leaves ↦ elim (cases_Bool (is_chunk c a)) [
        | inl is_a ↦ absurd (not_a (sym (same_from_is_chunk c gone leaves) ∙ same_from_is_chunk c a is_a))
        | inr other ↦ subst after (sym leaves) (sym (tail_is a b c chunks other) ∙ before)
      ]
      | inr stays ↦ elim (cases_Bool (is_chunk c a)) [
        | inl is_a ↦
            subst after (sym stays)
            (head_is a b c (without gone chunks) is_a ∙ (ap (nat_lt 0) (times-without_other b gone chunks not_b) ∙ (sym (head_is a b c chunks is_a) ∙ before)))
        | inr other ↦
            subst after (sym stays)
            (tail_is a b c (without gone chunks) other ∙ before-without a b gone chunks not_a not_b (sym (tail_is a b c chunks other) ∙ before))
      ]
    ]
