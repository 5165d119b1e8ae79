-- The machine goes on by itself: a class gets a page, whose chunks are cut.
use Rattle.std.proofs.Common.{◌≡◌, ℕ, ◌+◌, ◌≤◌, List, [], ◌∷◌, length, suc, zero, Bool, true, false, Option, Some, None, refl, ap, sym, ◌∙◌, subst, arith, add-one, inl, inr, lt-ltb, le-ltb}
use Rattle.std.specs.Prelude.{fold, nat_lt, if◌then◌else◌}
use Rattle.std.proofs.lemmas.Bool.{cases_lt}
use Rattle.mc_pages.specs.declared.ids.ChunkId.{ChunkId}
use Rattle.mc_pages.specs.Accounted.{first_chunks}
use Rattle.mc_pages.specs.SlabState.{SlabState, HasClass, class_at, class_of_chunk}
use Rattle.mc_pages.specs.Changes.{after_cut, after_grant, after_grow, after_take, next_page}
use Rattle.mc_pages.specs.InOrder.{AreSlabsInOrder}
use Rattle.mc_pages.proofs.Kept.{IsInOrder-after_cut, IsInOrder-after_grant, IsInOrder-after_take}
use Rattle.mc_pages.proofs.RoomyGrow.{grow_grants, grow_takes, next_granted, next_pooled}
use Rattle.mc_serial_spec.specs.Consistent.{IsConsistent}
use Rattle.mc_serial_spec.specs.Machine.{Machine, machine_after_growth, has_free, machine_after_stocking, machine_after_sweep, with_cut_page, with_new_page}
use Rattle.mc_serial_spec.specs.Supply.{machine_after_supply}
use Rattle.mc_pages.proofs.Cuts.{chunk_at, cuts_more, next_after_cut, next_cut}
use Rattle.mc_serial_spec.proofs.Grown.{per_page_given, per_page_grown}
use Rattle.mc_serial_spec.proofs.KeptChanges.{kept_grow}
use Rattle.mc_serial_spec.proofs.Modes.{mode-given}
use Rattle.mc_serial_spec.proofs.Stocks.{IsClass-stocked, IsClass-swept}
use Rattle.mc_serial_laws.proofs.Lawful.{IsLawful, off, Proceeds, proceeds_same, proceeds_slabs, proceeds_then}
use Rattle.mc_serial_laws.proofs.ProceedEvicts.{proceeds_relieved}
use Rattle.mc_serial_laws.proofs.ProceedSweeps.{proceeds_swept}

-- the chunks of a page are cut, one after another
pub cuts_in_order : (slabs : SlabState) (granted page per_page index : ℕ) → AreSlabsInOrder slabs granted → slabs.uncut ≡ next_cut page per_page 0
    → (class_of_chunk slabs (chunk_at page 0)).per_page ≡ per_page → index ≤ per_page
    → AreSlabsInOrder (fold after_cut slabs (first_chunks page index)) granted × ((fold after_cut slabs (first_chunks page index)).uncut ≡ next_cut page per_page index)
cuts_in_order slabs granted page per_page zero order first same within = (order, first)
cuts_in_order slabs granted page per_page (suc index) order first same within =
    let now : SlabState = fold after_cut slabs (first_chunks page index) in
    let so_far = cuts_in_order slabs granted page per_page index order first same (omega (arith, within)) in
    let next : now.uncut ≡ Some (chunk_at page index)
    = so_far.1 ∙ ap (λ b. if b then Some (chunk_at page index) else None) (lt-ltb index per_page (omega (arith, within))) in
    let more : after_cut now (chunk_at page index) ≡ fold after_cut slabs (first_chunks page (suc index))
    = cuts_more slabs now page index refl ∙ ap (λ n. fold after_cut slabs (first_chunks page n)) (add-one index) in
    let uncut : (after_cut now (chunk_at page index)).uncut ≡ next_cut page per_page (suc index)
    = next_after_cut slabs now page per_page index refl same ∙ ap (next_cut page per_page) (add-one index) in (
      subst (λ (s : SlabState). AreSlabsInOrder s granted) more (IsInOrder-after_cut now granted (chunk_at page index) so_far.0 next),
      ap (λ (s : SlabState). s.uncut) (sym more) ∙ uncut,
    )

-- and then none of them is uncut
pub all_cut : (slabs : SlabState) (granted page per_page : ℕ) → AreSlabsInOrder slabs granted → slabs.uncut ≡ Some (chunk_at page 0)
    → (class_of_chunk slabs (chunk_at page 0)).per_page ≡ per_page → 1 ≤ per_page
    → AreSlabsInOrder (fold after_cut slabs (first_chunks page per_page)) granted × ((fold after_cut slabs (first_chunks page per_page)).uncut ≡ None)
all_cut slabs granted page per_page order first same some =
    let begins : slabs.uncut ≡ next_cut page per_page 0
    = first ∙ ap (λ b. if b then Some (chunk_at page 0) else None) (sym (lt-ltb 0 per_page (omega (arith, some)))) in
    let done = cuts_in_order slabs granted page per_page per_page order begins same (omega arith) in
    (done.0, done.1 ∙ ap (λ b. if b then Some (chunk_at page per_page) else None) (le-ltb per_page per_page (omega arith)))

-- a class gets the next page
order_grown : (slabs : SlabState) (granted class page : ℕ) → AreSlabsInOrder slabs granted → HasClass slabs class → slabs.uncut ≡ None → next_page slabs class ≡ Some page
    → (more : ℕ) × AreSlabsInOrder (after_grow slabs class page) more × (granted ≤ more)
order_grown slabs granted class page order valid whole next = elim (cases_lt 0 (length slabs.pool)) [
  | inl some ↦
      (granted, rw (grow_takes slabs class page some) (IsInOrder-after_take slabs granted class page order valid whole (next_pooled slabs class page some next)), omega arith)
  | inr none ↦
      let is = next_granted slabs granted class page order valid (omega (arith, none)) next in
      (granted + 1, rw (grow_grants slabs class page (omega (arith, none)), is.0) (IsInOrder-after_grant slabs granted class order valid whole is.1 is.2), omega arith)
]

uncut_grown : (b : Bool) (slabs : SlabState) (class page : ℕ)
    → (if b then after_take slabs class page else after_grant slabs class page).uncut ≡ Some (chunk_at page 0)
uncut_grown true slabs class page = refl
uncut_grown false slabs class page = refl

-- whether the automover is on has no part in what comes of a page
off-grow : (slabs : SlabState) (class page : ℕ) → after_grow (off slabs) class page ≡ off (after_grow slabs class page)
off-grow slabs class page =
    elim (nat_lt 0 (length slabs.pool)) as
    (λ (b : Bool). (if b then after_take (off slabs) class page else after_grant (off slabs) class page) ≡ off (if b then after_take slabs class page else after_grant slabs class page))
    [ true ↦ refl | false ↦ refl ]

off-cuts : (slabs : SlabState) (chunks : List ChunkId) → fold after_cut (off slabs) chunks ≡ off (fold after_cut slabs chunks)
off-cuts slabs [] = refl
off-cuts slabs (chunk ∷ chunks) = off-cuts (after_cut slabs chunk) chunks

pub off-cut_page : (slabs : SlabState) (class page : ℕ) → with_cut_page (off slabs) class page ≡ off (with_cut_page slabs class page)
off-cut_page slabs class page = off-cuts slabs (first_chunks page (class_at slabs class).per_page)

proceeds_page : (m : Machine) (class : ℕ) (page : Option ℕ) → IsLawful m → HasClass m.slabs class → next_page m.slabs class ≡ page
    → Proceeds m (with_new_page m class page)
proceeds_page m class None lawful valid next = proceeds_same m lawful
proceeds_page m class (Some page) lawful valid next =
    let was : SlabState = off m.slabs in
    let grown : SlabState = after_grow was class page in
    let per_page : ℕ = (class_at grown class).per_page in
    let order = order_grown was lawful.granted class page lawful.order valid lawful.kept.whole next in
    let same : (class_of_chunk grown (chunk_at page 0)).per_page ≡ per_page
    = per_page_given was class page lawful.kept.accounted valid next ∙ sym (per_page_grown was class page valid) in
    let some : 1 ≤ per_page = rw (per_page_grown was class page valid) (lawful.order.per_page class valid) in
    let cut = all_cut grown order.0 page per_page order.1 (uncut_grown (nat_lt 0 (length m.slabs.pool)) was class page) same some in
    let kept = kept_grow m.table was m.items class page (first_chunks page per_page) lawful.kept valid next cut.0.accounted cut.1 in
    let now : with_cut_page grown class page ≡ off (with_cut_page (after_grow m.slabs class page) class page)
    = ap (λ (s : SlabState). with_cut_page s class page) (off-grow m.slabs class page) ∙ off-cut_page (after_grow m.slabs class page) class page in
    proceeds_slabs m (with_cut_page (after_grow m.slabs class page) class page) order.0 lawful
    (subst (λ (s : SlabState). IsConsistent m.table s m.items) now kept) (subst (λ (s : SlabState). AreSlabsInOrder s order.0) now cut.0)
    order.2 (mode-given m.slabs class page)

proceeds_extended : (m : Machine) (class : ℕ) → IsLawful m → HasClass m.slabs class → Proceeds m (machine_after_growth m class)
proceeds_extended m class lawful valid = extended_way (has_free m class)
  where
    extended_way : (b : Bool) → Proceeds m (if b then m else with_new_page m class (next_page m.slabs class))
    extended_way true = proceeds_same m lawful
    extended_way false = proceeds_page m class (next_page m.slabs class) lawful valid refl

pub proceeds_stocked : (m : Machine) (class : ℕ) → IsLawful m → HasClass m.slabs class → Proceeds m (machine_after_stocking m class)
proceeds_stocked m class lawful valid = stocked_way (has_free m class)
  where
    stocked_way : (b : Bool) → Proceeds m (if b then m else machine_after_growth (machine_after_sweep m class) class)
    stocked_way true = proceeds_same m lawful
    stocked_way false =
        let first : Proceeds m (machine_after_sweep m class) = proceeds_swept m class lawful valid in
        proceeds_then m (machine_after_sweep m class) (machine_after_growth (machine_after_sweep m class) class) first
        (proceeds_extended (machine_after_sweep m class) class first.lawful (IsClass-swept m class valid))

pub proceeds_supplied : (m : Machine) (class : ℕ) → IsLawful m → HasClass m.slabs class → Proceeds m (machine_after_supply m class)
proceeds_supplied m class lawful valid =
    let first : Proceeds m (machine_after_stocking m class) = proceeds_stocked m class lawful valid in
    proceeds_then m (machine_after_stocking m class) (machine_after_supply m class) first (proceeds_relieved (machine_after_stocking m class) class first.lawful (IsClass-stocked m class valid))
