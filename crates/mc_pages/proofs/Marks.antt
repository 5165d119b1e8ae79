-- What the mark of a chunk tells.
use Rattle.std.proofs.Common.{◌≡◌, ◌≢◌, ℕ, ◌+◌, ◌-◌, ◌<◌, ◌≤◌, true, false, nat_lt, if◌then◌else◌, Option, Some, None, length, refl, sym, ap, ◌∙◌, subst, inl, inr, arith, eq-eqb, ne_eqb, lt-ltb, le-ltb}
use Rattle.std.proofs.lemmas.Bool.{and_parts, cases_eq, cases_lt, ltb-true}
use Rattle.std.proofs.lemmas.List.{get_or_past}
use Rattle.mc_pages.specs.declared.ids.ChunkId.{ChunkId}
use Rattle.mc_pages.specs.declared.rows.ListName.{ListName}
use Rattle.mc_pages.specs.declared.rows.ListName.TheVariants.{Free, HandedOut}
use Rattle.mc_pages.specs.declared.rows.Field.TheVariants.{Next, Head}
use Rattle.mc_pages.specs.declared.rows.Mark.TheVariants as marks
use Rattle.mc_pages.specs.declared.slabs.Slabs.TheInside.{Inside}
use Rattle.mc_pages.specs.Ledger.{owner_at}
use Rattle.mc_pages.specs.ClassState.{times_in}
use Rattle.mc_pages.specs.Rows.{IsRow, row_of_chunk, field_of}
use Rattle.mc_pages.specs.Linked.{walk, list_chunks}
use Rattle.mc_pages.specs.SlabState.{SlabState, HasClass, class_at, class_of_page, class_of_chunk}
use Rattle.mc_pages.specs.Accounted.{is_of_class, cut_count, is_cut}
use Rattle.mc_pages.specs.InOrder.{AreSlabsInOrder, IsStoredInOrder, slabs_of}
use Rattle.mc_pages.proofs.HandedOut.{class_of_placed}
use Rattle.mc_pages.proofs.Runs.{None≢Some}
use Rattle.mc_pages.proofs.RoomySlabs.{lists_at, IsRow-page}

-- no more chunks of a page were cut than it has
cut_count_le : (uncut : Option ChunkId) (page per_page : ℕ) → ((next : ChunkId) → uncut ≡ Some next → next.page ≡ page → next.index ≤ per_page) → cut_count uncut page per_page ≤ per_page
cut_count_le None page per_page next_within = omega arith
cut_count_le (Some next) page per_page next_within =
    elim (cases_eq next.page page) [
      | inl same ↦ omega (arith, ap (λ b. if b then next.index else per_page) (eq-eqb next.page page same), next_within next refl same)
      | inr differs ↦ omega (arith, ap (λ b. if b then next.index else per_page) (ne_eqb next.page page differs))
    ]

-- the lowest uncut chunk, where it is on this page, is one of it
uncut_within : (slabs : SlabState) (granted page : ℕ) (next : ChunkId) → AreSlabsInOrder slabs granted → slabs.uncut ≡ Some next → next.page ≡ page → next.index ≤ (class_at slabs (class_of_page slabs page)).per_page
uncut_within slabs granted page next kept h same =
    omega (arith, (kept.uncut next h).within, ap (λ (p : ℕ). (class_at slabs (class_of_page slabs p)).per_page) same)

-- a chunk that was cut is one of its page
cut_within : (slabs : SlabState) (granted : ℕ) (chunk : ChunkId) → AreSlabsInOrder slabs granted → is_cut slabs (class_of_page slabs chunk.page) chunk ≡ true → chunk.index < (class_of_chunk slabs chunk).per_page
cut_within slabs granted chunk kept cut =
    let own = class_of_page slabs chunk.page in
    let count = cut_count slabs.uncut chunk.page (class_at slabs own).per_page in
    let parts = and_parts (is_of_class own (owner_at slabs.owners chunk.page)) (nat_lt chunk.index count) cut in
    let below : chunk.index < count = ltb-true chunk.index count parts.1 in
    omega (arith, below, cut_count_le slabs.uncut chunk.page (class_at slabs own).per_page (λ next h same. uncut_within slabs granted chunk.page next kept h same))

-- so it has a row
pub IsRow-cut : (slabs : Inside) (chunk : ChunkId) → IsStoredInOrder slabs → HasClass (slabs_of slabs) (class_of_page (slabs_of slabs) chunk.page) → is_cut (slabs_of slabs) (class_of_page (slabs_of slabs) chunk.page) chunk ≡ true → IsRow slabs.rows chunk
IsRow-cut slabs chunk kept is cut = IsRow-page slabs chunk kept is (cut_within (slabs_of slabs) slabs.granted chunk kept.order cut)

-- marks are apart
free≢unlisted : marks.Free ≢ marks.Unlisted
free≢unlisted h = cc h

handed_out≢free : marks.HandedOut ≢ marks.Free
handed_out≢free h = cc h

-- a chunk of a free list stands in that of its class
in_free_list : (slabs : Inside) (chunk : ChunkId) (place : ℕ) → IsStoredInOrder slabs → 1 ≤ times_in chunk (list_chunks slabs.rows (Free place)) → 1 ≤ times_in chunk (class_of_chunk (slabs_of slabs) chunk).free
in_free_list slabs chunk place kept there =
    let s = slabs_of slabs in
    elim (cases_lt place (length s.classes)) [
      | inl within ↦
          let is : HasClass s (place + 1) = (omega arith, omega (arith, within)) in
          let here : 1 ≤ times_in chunk (class_at s (place + 1)).free = omega (arith, there, ap (times_in chunk) (lists_at slabs (place + 1) place is (omega arith)).0) in
          let own : class_of_page s chunk.page ≡ place + 1 = class_of_placed s (place + 1) chunk kept.order.accounted is (omega (arith, here)) in
          subst (λ (n : ℕ). 1 ≤ times_in chunk (class_at s n).free) (sym own) here
      | inr past ↦
          absurd (omega (arith, there, ap (λ (n : ℕ). times_in chunk (walk (λ c. field_of slabs.rows (Next c)) n (field_of slabs.rows (Head (Free place))))) (get_or_past slabs.rows.free_lengths place 0 (omega (arith, past, kept.rows.free_lengths)))))
    ]

-- a chunk of this list whose mark is that of the free ones stands in the free list of its class
in_list : (slabs : Inside) (chunk : ChunkId) (list : ListName) → IsStoredInOrder slabs → (row_of_chunk slabs.rows chunk).mark ≡ marks.Free → 1 ≤ times_in chunk (list_chunks slabs.rows list) → 1 ≤ times_in chunk (class_of_chunk (slabs_of slabs) chunk).free
in_list slabs chunk (Free place) kept mark there = in_free_list slabs chunk place kept there
in_list slabs chunk (HandedOut place) kept mark there = absurd (handed_out≢free (sym (kept.linked.sides (HandedOut place) chunk there) ∙ mark))

-- a chunk that is marked as free stands in the free list of its class
pub free_from_mark : (slabs : Inside) (chunk : ChunkId) → IsStoredInOrder slabs → (row_of_chunk slabs.rows chunk).mark ≡ marks.Free → nat_lt 0 (times_in chunk (class_of_chunk (slabs_of slabs) chunk).free) ≡ true
free_from_mark slabs chunk kept mark =
    let listed = kept.linked.listed chunk (None≢Some chunk) (λ h. free≢unlisted (sym mark ∙ h)) in
    lt-ltb 0 _ (omega (arith, in_list slabs chunk listed.0 kept mark listed.1))

-- and one that isn't doesn't
pub not_free_from_mark : (slabs : Inside) (chunk : ChunkId) → IsStoredInOrder slabs → HasClass (slabs_of slabs) (class_of_page (slabs_of slabs) chunk.page) → (row_of_chunk slabs.rows chunk).mark ≢ marks.Free → nat_lt 0 (times_in chunk (class_of_chunk (slabs_of slabs) chunk).free) ≡ false
not_free_from_mark slabs chunk kept is mark =
    let s = slabs_of slabs in
    let own = class_of_page s chunk.page in
    elim (cases_lt 0 (times_in chunk (class_at s own).free)) [
      | inl there ↦
          let here : 1 ≤ times_in chunk (list_chunks slabs.rows (Free (own - 1))) = omega (arith, there, ap (times_in chunk) (lists_at slabs own (own - 1) is refl).0) in
          absurd (mark (kept.linked.sides (Free (own - 1)) chunk here))
      | inr none ↦ le-ltb 0 _ (omega (arith, none))
    ]
