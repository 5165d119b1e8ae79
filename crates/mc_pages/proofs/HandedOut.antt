-- The class of a chunk that stands in a class's lists, and how often it stands there.
use Rattle.std.proofs.Common.{◌≡◌, ◌+◌, ◌-◌, ◌≤◌, ℕ, length, sym, ap, subst, inl, inr, arith, Contains, slice_index_or}
use Rattle.std.proofs.lemmas.Bool.{cases_lt, cases_Bool, and_parts}
use Rattle.std.proofs.lemmas.List.{get_or_past}
use Rattle.mc_pages.specs.declared.ids.ChunkId.{ChunkId}
use Rattle.mc_pages.specs.Ledger.{owner_at}
use Rattle.mc_pages.specs.ClassState.{ClassState, times_in, new_class}
use Rattle.mc_pages.specs.SlabState.{SlabState, HasClass, class_at, class_of_page, class_of_chunk}
use Rattle.mc_pages.specs.Accounted.{truth, is_cut, places_in, IsAccounted}
use Rattle.mc_pages.specs.InOrder.{AreSlabsInOrder}
use Rattle.mc_pages.proofs.Chunks.{times_from_Contains}
use Rattle.mc_pages.proofs.Cleared.{truth-le_one}
use Rattle.mc_pages.proofs.Owners.{class_of_owner-is_of_class}

-- a chunk that stands in the lists of a class was cut for it
pub class_of_placed : (slabs : SlabState) (class : ℕ) (chunk : ChunkId) → IsAccounted slabs → HasClass slabs class → 1 ≤ places_in slabs class chunk → class_of_page slabs chunk.page ≡ class
class_of_placed slabs class chunk all is placed =
    elim (cases_Bool (is_cut slabs class chunk)) [
      | inl cut ↦ class_of_owner-is_of_class class (owner_at slabs.owners chunk.page) (and_parts _ _ cut).0
      | inr uncut ↦ absurd (omega (arith, all.chunks class chunk is, ap truth uncut, placed))
    ]

-- the class in whose lists a chunk stands is one of the classes
pub IsClass-placed : (slabs : SlabState) (chunk : ChunkId) → IsAccounted slabs → 1 ≤ places_in slabs (class_of_page slabs chunk.page) chunk → HasClass slabs (class_of_page slabs chunk.page)
IsClass-placed slabs chunk all placed =
    let own = class_of_page slabs chunk.page in
    let counted = λ (c : ClassState). times_in chunk c.free + times_in chunk c.order in
    elim (cases_lt (own - 1) (length slabs.classes)) [
      | inl within ↦
          let class = own - 1 + 1 in
          let there : class_at slabs own ≡ class_at slabs class = ap (λ (n : ℕ). slice_index_or slabs.classes n (new_class 0 0)) (omega arith) in
          let is : HasClass slabs class = (omega arith, omega arith) in
          let own_is = class_of_placed slabs class chunk all is (omega (arith, ap counted there, placed)) in
          subst (λ (n : ℕ). HasClass slabs n) (sym own_is) is
      | inr past ↦ absurd (omega (arith, ap counted (get_or_past slabs.classes (own - 1) (new_class 0 0) past), placed))
    ]

-- a chunk that is handed out was cut for its class
pub class_of_handed_out : (slabs : SlabState) (class : ℕ) (chunk : ChunkId) → IsAccounted slabs → HasClass slabs class → Contains (class_at slabs class).order chunk → class_of_page slabs chunk.page ≡ class
class_of_handed_out slabs class chunk all is handed =
    class_of_placed slabs class chunk all is (omega (arith, times_from_Contains chunk (class_at slabs class).order handed))

-- the class that has a handed-out chunk is one of the classes
pub IsClass-handed_out : (slabs : SlabState) (chunk : ChunkId) → IsAccounted slabs → Contains (class_of_chunk slabs chunk).order chunk → HasClass slabs (class_of_page slabs chunk.page)
IsClass-handed_out slabs chunk all handed =
    IsClass-placed slabs chunk all (omega (arith, times_from_Contains chunk (class_of_chunk slabs chunk).order handed))

-- a chunk stands once in the lists of its class
pub times_cleared_one : (slabs : SlabState) (granted : ℕ) (chunk : ChunkId) → AreSlabsInOrder slabs granted → 1 ≤ places_in slabs (class_of_page slabs chunk.page) chunk → times_in chunk (class_of_chunk slabs chunk).free + times_in chunk (class_of_chunk slabs chunk).order ≡ 1
times_cleared_one slabs granted chunk kept placed =
    let own = class_of_page slabs chunk.page in
    let is = IsClass-placed slabs chunk kept.accounted placed in
    omega (arith, kept.accounted.chunks own chunk is, truth-le_one (is_cut slabs own chunk), placed)

-- a free chunk of a class that has a handed-out one stands once in its free list
pub times_free_one : (slabs : SlabState) (granted : ℕ) (new old : ChunkId) → AreSlabsInOrder slabs granted → Contains (class_of_chunk slabs old).free new → Contains (class_of_chunk slabs old).order old → times_in new (class_of_chunk slabs old).free ≡ 1
times_free_one slabs granted new old kept free handed =
    let own = class_of_page slabs old.page in
    let is = IsClass-handed_out slabs old kept.accounted handed in
    omega (arith, kept.accounted.chunks own new is, truth-le_one (is_cut slabs own new), times_from_Contains new (class_of_chunk slabs old).free free)
