-- The chunks of a free list are chunks of the arena, cut for their class.
use Rattle.std.proofs.Common.{◌≡◌, ℕ, ◌/◌, ◌<◌, ◌≤◌, ◌&&◌, Bool, true, Some, sym, ap, ◌∙◌, arith, subst, inl, inr, nat_lt, length, find, lt-ltb, le_trans, mul-le-mul_left, div-mul-le_self}
use Rattle.std.proofs.lemmas.Bool.{cases_Bool, cases_lt, and_parts, and_from}
use Rattle.std.proofs.lemmas.List.{get_or_past}
use Rattle.std.proofs.lemmas.Nat.{le-div}
use Rattle.mc_classes.specs.Classes.{Classes, IsSound, arena_pages_of, size_of, per_page_of}
use Rattle.mc_pages.specs.declared.ids.ChunkId.{ChunkId}
use Rattle.mc_pages.specs.declared.ledger.Owner.TheVariants.{Untouched}
use Rattle.mc_pages.specs.Ledger.{owner_at}
use Rattle.mc_pages.specs.ClassState.{times_in, first_free}
use Rattle.mc_pages.specs.SlabState.{SlabState, HasClass, class_at, class_of_owner, class_of_page}
use Rattle.mc_pages.specs.Accounted.{truth, is_of_class, is_cut, cut_count}
use Rattle.mc_pages.proofs.Chunks.{Contains_from_slice_get, times_from_Contains}
use Rattle.mc_pages.proofs.Owners.{class_of_owner-is_of_class}
use Rattle.mc_core.specs.model.Head.{is_free}
use Rattle.mc_core.specs.model.State.{has_chunk, most_of}
use Rattle.mc_core.specs.model.Columns.{head_in}
use Rattle.mc_core.specs.past.Past.{Moment}
use Rattle.mc_core.specs.law.Lawful.{IsLawful}
use Rattle.mc_core.proofs.Places.OfTable.{class_count}
use Rattle.mc_core.proofs.Steps.Listed.{per_page_is, times_from_among, found_among}
use Rattle.mc_core.proofs.Steps.Base.{IsPlaced, placed_from}

-- no class has more chunks a page than the first
per_page_most : (table : Classes) (class : ℕ) → IsSound table → (1 ≤ class) × (class ≤ length table.sizes) → per_page_of table class ≤ most_of table
per_page_most table class sound is =
    let count = is.0 in
    let within = is.1 in
    let first = sound.sizes 1 (omega arith, omega arith) in
    let smaller : size_of table 1 ≤ size_of table class = sound.order 1 class (omega arith, omega arith) is count in
    le-div (table.page / size_of table class) table.page (size_of table 1) (omega arith)
    (le_trans (mul-le-mul_left (table.page / size_of table class) smaller) (div-mul-le_self table.page (size_of table class)))

-- a page that a class has is one of the arena
pub page_within : (slabs : SlabState) (page : ℕ) → 1 ≤ class_of_page slabs page → page < length slabs.owners
page_within slabs page some = elim (cases_lt page (length slabs.owners)) [
  | inl within ↦ within
  | inr past ↦ let none : class_of_page slabs page ≡ 0 = ap class_of_owner (get_or_past slabs.owners page Untouched past) in absurd (omega arith)
]

module _ (m : Moment) (l : IsLawful m) where
  abbrev slabs : SlabState
  slabs = m.state.slabs

  -- a chunk of a class's page is one of the arena
  pub near_in : (chunk : ChunkId) → HasClass slabs (class_of_page slabs chunk.page) → chunk.index < (class_at slabs (class_of_page slabs chunk.page)).per_page → has_chunk m.state.table chunk ≡ true
  near_in chunk is below =
      let class = class_of_page slabs chunk.page in
      let count = class_count m.state.table slabs l.paged.of_table in
      let within : (1 ≤ class) × (class ≤ length m.state.table.sizes) = (is.0, omega arith) in
      let most = per_page_most m.state.table class l.sized.sound within in
      let chunks = per_page_is m.state.table slabs class l.paged.of_table is in
      let page = page_within slabs chunk.page is.0 in
      let pages = l.paged.of_table.owners in
      and_from _ _ (lt-ltb chunk.page (arena_pages_of m.state.table) (omega arith)) (lt-ltb chunk.index (most_of m.state.table) (omega arith))

  -- so is one that was cut
  pub near_placed : (chunk : ChunkId) → IsPlaced slabs chunk → has_chunk m.state.table chunk ≡ true
  near_placed chunk placed = near_in chunk placed.class placed.within

  -- a chunk that was cut for a class is so for the class of its page
  pub placed_in : (class : ℕ) (chunk : ChunkId) → HasClass slabs class → is_cut slabs class chunk ≡ true → (class_of_page slabs chunk.page ≡ class) × IsPlaced slabs chunk
  placed_in class chunk is cut =
      let own = class_of_owner-is_of_class class (owner_at slabs.owners chunk.page) (and_parts (is_of_class class (owner_at slabs.owners chunk.page)) (nat_lt chunk.index (cut_count slabs.uncut chunk.page (class_at slabs class).per_page)) cut).0 in (
        own,
        placed_from m l chunk (subst (λ (c : ℕ). is_cut slabs c chunk ≡ true) (sym own) cut),
      )

  -- a chunk of a free list
  pub free_placed : (class : ℕ) (chunk : ChunkId) → HasClass slabs class → 1 ≤ times_in chunk (class_at slabs class).free →
      (class_of_page slabs chunk.page ≡ class) × IsPlaced slabs chunk × (is_free (head_in m.state.table m.state.heads chunk).tag ≡ true)
  free_placed class chunk is some = elim (cases_Bool (is_cut slabs class chunk && is_free (head_in m.state.table m.state.heads chunk).tag)) [
    | inl both ↦ let parts = and_parts (is_cut slabs class chunk) (is_free (head_in m.state.table m.state.heads chunk).tag) both in let at = placed_in class chunk is parts.0 in (at.0, at.1, parts.1)
    | inr neither ↦ let none = l.placed.free class chunk is ∙ ap truth neither in absurd (omega arith)
  ]

  -- the one that comes next
  pub first_placed : (class : ℕ) (chunk : ChunkId) → HasClass slabs class → first_free (class_at slabs class) ≡ Some chunk →
      (class_of_page slabs chunk.page ≡ class) × IsPlaced slabs chunk × (is_free (head_in m.state.table m.state.heads chunk).tag ≡ true)
  first_placed class chunk is first =
      free_placed class chunk is (times_from_Contains chunk (class_at slabs class).free (Contains_from_slice_get chunk (class_at slabs class).free 0 first))

  -- the first that passes a test
  pub found_placed : (class : ℕ) (chunk : ChunkId) (test : ChunkId → Bool) → HasClass slabs class → find test (class_at slabs class).free ≡ Some chunk →
      (class_of_page slabs chunk.page ≡ class) × IsPlaced slabs chunk × (is_free (head_in m.state.table m.state.heads chunk).tag ≡ true)
  found_placed class chunk test is found =
      free_placed class chunk is (times_from_among (class_at slabs class).free chunk (found_among test (class_at slabs class).free chunk found))
