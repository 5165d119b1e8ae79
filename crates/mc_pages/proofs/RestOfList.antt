-- Walks along a list of chunks that stand in it once: from one chunk to the one behind it.
use Rattle.std.proofs.Common.{◌≡◌, ℕ, ◌+◌, ◌-◌, ◌≤◌, List, [], ◌∷◌, length, drop, zero, suc, true, false, Option, Some, None, refl, sym, ap, arith, slice_get, inl, inr}
use Rattle.std.specs.Prelude.{if◌then◌else◌}
use Rattle.std.proofs.lemmas.Bool.{cases_Bool}
use Rattle.std.proofs.lemmas.List.{length-drop}
use Rattle.mc_pages.specs.declared.ids.ChunkId.{ChunkId}
use Rattle.mc_pages.specs.ClassState.{is_chunk, times_in, behind}
use Rattle.mc_pages.specs.Accounted.{truth}
use Rattle.mc_pages.proofs.Chunks.{is_chunk-same, times-cons}

-- the list from a chunk on
abbrev pub rest_from : Option ChunkId → List ChunkId → List ChunkId
rest_from None chunks = []
rest_from (Some x) [] = []
rest_from (Some x) (c ∷ chunks) = if is_chunk c x then c ∷ chunks else rest_from (Some x) chunks

-- a chunk that stands behind the head, and in the list once, isn't the head
not_head : (c x : ChunkId) (chunks : List ChunkId) (place : ℕ) → slice_get chunks place ≡ Some x → times_in x (c ∷ chunks) ≤ 1 → is_chunk c x ≡ false
not_head c x chunks place at once = elim (cases_Bool (is_chunk c x)) [
  | inr other ↦ other
  | inl same ↦ absurd (omega (arith, once, times-cons x c chunks, ap truth same, counted chunks place at))
]
  where
    counted : (cs : List ChunkId) (p : ℕ) → slice_get cs p ≡ Some x → 1 ≤ times_in x cs
    counted [] p found = cc
    counted (d ∷ cs) zero found =
        let here : d ≡ x = cc in
        let same : is_chunk d x ≡ true = rw here (is_chunk-same x) in
        omega (arith, times-cons x d cs, ap truth same)
    counted (d ∷ cs) (suc p) found = omega (arith, times-cons x d cs, counted cs p found)

-- from the chunk at a place on is from the place on
pub rest_there : (chunks : List ChunkId) (place : ℕ) (x : ChunkId) → slice_get chunks place ≡ Some x → times_in x chunks ≤ 1
    → rest_from (Some x) chunks ≡ drop place chunks
rest_there [] place x at once = cc
rest_there (c ∷ chunks) zero x at once =
    let here : c ≡ x = cc in
    rw (here, is_chunk-same x) refl
rest_there (c ∷ chunks) (suc place) x at once =
    rw (not_head c x chunks place at once) (rest_there chunks place x at (omega (arith, once, times-cons x c chunks)))

-- and behind it is the chunk at the next place
pub behind_there : (chunks : List ChunkId) (place : ℕ) (x : ChunkId) → slice_get chunks place ≡ Some x → times_in x chunks ≤ 1
    → behind x chunks ≡ slice_get chunks (place + 1)
behind_there [] place x at once = cc
behind_there (c ∷ chunks) zero x at once =
    let here : c ≡ x = cc in
    rw (here, is_chunk-same x) refl
behind_there (c ∷ chunks) (suc place) x at once =
    let next : suc place + 1 ≡ suc (place + 1) = omega arith in
    rw (not_head c x chunks place at once, next) (behind_there chunks place x at (omega (arith, once, times-cons x c chunks)))

-- how much is left from a chunk on, or from the end
pub rest_short : (chunks : List ChunkId) (place : ℕ) (next : Option ChunkId) → next ≡ slice_get chunks place → ((x : ChunkId) → times_in x chunks ≤ 1)
    → length (rest_from next chunks) ≤ length chunks - place
rest_short chunks place None is once = omega arith
rest_short chunks place (Some x) is once = rw (rest_there chunks place x (sym is) (once x)) (omega (arith, length-drop place chunks))

pub rest_long : (chunks : List ChunkId) (place : ℕ) (x : ChunkId) → slice_get chunks place ≡ Some x → times_in x chunks ≤ 1
    → length (rest_from (Some x) chunks) ≡ length chunks - place
rest_long chunks place x at once = rw (rest_there chunks place x at once) (length-drop place chunks)
