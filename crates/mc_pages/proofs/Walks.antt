-- A walk along a free list or a hand-out order, from its first chunk on: what each next chunk is.
use Rattle.std.proofs.Common.{◌≡◌, ℕ, ◌+◌, slice_get, Some, ap, ◌∙◌, arith}
use Rattle.mc_pages.specs.declared.ids.ChunkId.{ChunkId}
use Rattle.mc_pages.specs.ClassState.{behind}
use Rattle.mc_pages.specs.SlabState.{SlabState, HasClass, class_at, class_of_chunk}
use Rattle.mc_pages.specs.Accounted.{is_cut, IsAccounted}
use Rattle.mc_pages.proofs.Chunks.{times_from_Contains, Contains_from_slice_get}
use Rattle.mc_pages.proofs.Cleared.{truth-le_one}
use Rattle.mc_pages.proofs.ClassRows.{behind_at_some}
use Rattle.mc_pages.proofs.RunChanges.{IsOnce}
use Rattle.mc_pages.proofs.HandedOut.{class_of_placed, class_of_handed_out}

-- no chunk stands twice in a list of a class
free_once : (slabs : SlabState) (class : ℕ) → IsAccounted slabs → HasClass slabs class → IsOnce (class_at slabs class).free
free_once slabs class all is chunk = omega (arith, all.chunks class chunk is, truth-le_one (is_cut slabs class chunk))

order_once : (slabs : SlabState) (class : ℕ) → IsAccounted slabs → HasClass slabs class → IsOnce (class_at slabs class).order
order_once slabs class all is chunk = omega (arith, all.chunks class chunk is, truth-le_one (is_cut slabs class chunk))

-- behind the chunk at a place of the free list stands the chunk at the next place
pub behind_free_at : (slabs : SlabState) (class place : ℕ) (chunk : ChunkId) → IsAccounted slabs → HasClass slabs class → slice_get (class_at slabs class).free place ≡ Some chunk → behind chunk (class_of_chunk slabs chunk).free ≡ slice_get (class_at slabs class).free (place + 1)
behind_free_at slabs class place chunk all is h =
    let there = Contains_from_slice_get chunk (class_at slabs class).free place h in
    let own = class_of_placed slabs class chunk all is (omega (arith, times_from_Contains chunk (class_at slabs class).free there)) in
    ap (λ (n : ℕ). behind chunk (class_at slabs n).free) own
    ∙ (behind_at_some chunk (class_at slabs class).free place (free_once slabs class all is) h ∙ ap (slice_get (class_at slabs class).free) (omega arith))

-- and so it is in the hand-out order
pub behind_handed_out_at : (slabs : SlabState) (class place : ℕ) (chunk : ChunkId) → IsAccounted slabs → HasClass slabs class → slice_get (class_at slabs class).order place ≡ Some chunk → behind chunk (class_of_chunk slabs chunk).order ≡ slice_get (class_at slabs class).order (place + 1)
behind_handed_out_at slabs class place chunk all is h =
    let own = class_of_handed_out slabs class chunk all is (Contains_from_slice_get chunk (class_at slabs class).order place h) in
    ap (λ (n : ℕ). behind chunk (class_at slabs n).order) own
    ∙ (behind_at_some chunk (class_at slabs class).order place (order_once slabs class all is) h ∙ ap (slice_get (class_at slabs class).order) (omega arith))
