-- The mover's searches in a free list.
use Rattle.std.proofs.Common.{◌≡◌, ℕ, ◌+◌, ◌≤◌, ◌<◌, List, [], ◌∷◌, length, drop, get_or, zero, suc, Bool, true, false, Option, Some, None, refl, ◌∙◌, arith, slice_get, Contains}
use Rattle.std.specs.Prelude.{find}
use Rattle.std.proofs.lemmas.Option.{get_or_from_slice_get, slice_get_within}
use Rattle.std.proofs.Math.Seq.{drop-cons, drop-nil}
use Rattle.mc_pages.specs.declared.ids.ChunkId.{ChunkId}
use Rattle.mc_pages.specs.ClassState.{behind, times_in}
use Rattle.mc_pages.specs.SlabState.{HasClass, class_at, class_of_chunk, class_of_page}
use Rattle.mc_pages.proofs.Chunks.{times_from_Contains}
use Rattle.mc_serial_spec.specs.Consistent.{IsConsistent}
use Rattle.mc_serial_spec.specs.Machine.{Machine}
use Rattle.mc_pages.proofs.ListedChunks.{in_lists_once, page_of_listed}
use Rattle.mc_pages.proofs.RestOfList.{behind_there, rest_from, rest_long, rest_short}

-- what stands from a place on: the chunk there, and what is behind it
pub drop_there : (chunks : List ChunkId) (place : ℕ) (x : ChunkId) → slice_get chunks place ≡ Some x → drop place chunks ≡ x ∷ drop (place + 1) chunks
drop_there chunks place x at =
    let inside : place < length chunks = slice_get_within chunks place x at in
    let here : get_or chunks place x ≡ x = get_or_from_slice_get chunks place x x at in
    let next : suc place ≡ place + 1 = omega arith in
    drop-cons chunks place x inside ∙ rw (here, next) refl

-- and nothing where there is none
pub drop_past : (chunks : List ChunkId) (place : ℕ) → slice_get chunks place ≡ None → drop place chunks ≡ []
drop_past [] place none = drop-nil place
drop_past (c ∷ chunks) zero none = cc
drop_past (c ∷ chunks) (suc place) none = drop_past chunks place none

-- a search that goes on
pub find_behind : (p : ChunkId → Bool) (chunks : List ChunkId) (place : ℕ) (x : ChunkId) → slice_get chunks place ≡ Some x → p x ≡ false
    → find p (drop (place + 1) chunks) ≡ find p (drop place chunks)
find_behind p chunks place x at other = rw (drop_there chunks place x at) (rw other refl)

-- and one that ends
pub find_there : (p : ChunkId → Bool) (chunks : List ChunkId) (place : ℕ) (x : ChunkId) → slice_get chunks place ≡ Some x → p x ≡ true
    → find p (drop place chunks) ≡ Some x
find_there p chunks place x at passes = rw (drop_there chunks place x at) (rw passes refl)

-- what was found at a place of a class's free list
pub record FreeAt (m : Machine) (class place : ℕ) (x : ChunkId) : Type 0 where
  pub at : slice_get (class_at m.slabs class).free place ≡ Some x
  pub inside : place < length (class_at m.slabs class).free
  pub listed : Contains (class_of_chunk m.slabs x).free x
  pub once : (y : ChunkId) → times_in y (class_at m.slabs class).free ≤ 1
  -- and the chunk behind it is at the next
  pub next : behind x (class_of_chunk m.slabs x).free ≡ slice_get (class_at m.slabs class).free (place + 1)
  -- so that one chunk less is left from there on
  pub smaller : (next : Option ChunkId) → next ≡ slice_get (class_at m.slabs class).free (place + 1)
      → length (rest_from next (class_at m.slabs class).free) + 1 ≤ length (rest_from (Some x) (class_at m.slabs class).free)

pub found_free : (m now : Machine) (class place : ℕ) (x : ChunkId) → IsConsistent m.table m.slabs m.items → m ≡ now
    → HasClass now.slabs class → slice_get (class_at now.slabs class).free place ≡ Some x → FreeAt now class place x
found_free m now class place x kept same valid at =
    let kept_now : IsConsistent now.table now.slabs now.items = rw same at kept in
    let free : List ChunkId = (class_at now.slabs class).free in
    let inside : place < length free = slice_get_within free place x at in
    let here : Contains free x = (place, inside, get_or_from_slice_get free place x x at) in
    let some : 1 ≤ times_in x free = times_from_Contains x free here in
    let own : class_of_page now.slabs x.page ≡ class = page_of_listed now.slabs class x kept_now.accounted valid (omega (arith, some)) in
    let once : (y : ChunkId) → times_in y free ≤ 1 = λ y. omega (arith, in_lists_once now.slabs class y kept_now.accounted valid) in
    record {
      at = at;
      inside = inside;
      listed = rw own here;
      once = once;
      next = rw own (behind_there free place x at (once x));
      smaller = λ next is. omega (arith, inside, rest_short free (place + 1) next is once, rest_long free place x at (once x));
    }
