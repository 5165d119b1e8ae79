-- Where the machine goes on and takes no linked item away: the dead are put back, and classes get pages.
use Rattle.std.proofs.Common.{◌≡◌, ℕ, ◌+◌, ◌≤◌, List, [], ◌∷◌, suc, zero, length, Bool, true, false, not, Option, Some, None, refl, sym, ap, ◌∙◌, subst, arith, add-one, inl, inr}
use Rattle.std.specs.Prelude.{fold, if◌then◌else◌}
use Rattle.std.specs.List.{range_with_len}
use Rattle.std.specs.Option.{option_map_or}
use Rattle.std.proofs.lemmas.Bool.{and_parts, cases_Bool, false≢true}
use Rattle.mc_pages.specs.declared.ids.ChunkId.{ChunkId}
use Rattle.mc_pages.specs.ClassState.{ClassState, class_after_eviction, first_free, is_chunk, put_back, times_in}
use Rattle.mc_pages.specs.SlabState.{SlabState, HasClass, class_at, class_of_chunk, class_of_page}
use Rattle.mc_pages.specs.Changes.{after_back, next_page}
use Rattle.mc_pages.specs.Eviction.{eviction_tries}
use Rattle.mc_pages.proofs.Chunks.{is_chunk-same, same_from_is_chunk, times-cons, times_from_Contains}
use Rattle.mc_pages.proofs.FirstFound.{found_holds}
use Rattle.mc_pages.proofs.ListedChunks.{page_of_listed}
use Rattle.mc_pages.proofs.OneClass.{class_at-with_class_same}
use Rattle.std.proofs.lemmas.List.{length-set}
use Rattle.std.proofs.lemmas.Option.{none-some}
use Rattle.mc_pages.specs.Accounted.{truth}
use Rattle.mc_serial_spec.specs.Item.{Item}
use Rattle.mc_serial_spec.specs.Items.{item_in_chunk, has_unlinked_item}
use Rattle.mc_serial_spec.specs.Machine.{Machine, after_reclaim, all_swept, dead_chunks, machine_after_growth, has_free, is_dead_in, has_unheld_linked_item, machine_after_stocking, machine_after_sweep, with_new_page}
use Rattle.mc_serial_spec.specs.Supply.{machine_after_supply, supply, victim, with_eviction}
use Rattle.mc_serial_spec.proofs.Stocks.{IsClass-stocked, classes-sweeps, sweeps_more}
use Rattle.mc_serial_spec.proofs.Sweeps.{item_at-without_item}
use Rattle.mc_serial_laws.proofs.Lawful.{IsLawful, Proceeds, off}
use Rattle.mc_serial_laws.proofs.ProceedPages.{proceeds_stocked}
use Rattle.mc_serial_laws.proofs.ProceedSweeps.{AreDead, are_dead_swept, dead_rest, proceeds_sweeps}

-- each linked item is still in some chunk
pub record Spares (old new : Machine) : Type 0 where
  pub kept : (chunk : ChunkId) (item : Item) → item_in_chunk old.items chunk ≡ Some item → item.linked ≡ true
      → (after : ChunkId) × (item_in_chunk new.items after ≡ Some item)

pub spares_items : (old new : Machine) → new.items ≡ old.items → Spares old new
spares_items old new same = record { kept = λ chunk item at linked. (chunk, rw same at) }

pub spares_then : (a b c : Machine) → Spares a b → Spares b c → Spares a c
spares_then a b c first next = record {
  kept = λ chunk item at linked. let here = first.kept chunk item at linked in next.kept here.0 item here.1 linked;
}

-- a dead item isn't linked
not_linked : (found : Option Item) (item : Item) → option_map_or (λ (item : Item). not item.linked) found false ≡ true → found ≡ Some item → item.linked ≡ false
not_linked None item dead is = cc
not_linked (Some other) item dead is = grind (arith, dead, is)

spares_reclaim : (m : Machine) (x : ChunkId) → is_dead_in m x ≡ true → Spares m (after_reclaim m x)
spares_reclaim m x dead = record {
  kept = λ chunk item at linked. elim (cases_Bool (is_chunk x chunk)) [
    | inl same ↦
        let one : item_in_chunk m.items x ≡ Some item = ap (item_in_chunk m.items) (same_from_is_chunk x chunk same) ∙ at in
        let gone : item.linked ≡ false = not_linked (item_in_chunk m.items x) item (and_parts (has_unlinked_item m.items x) _ dead).0 one in
        absurd (false≢true (sym gone ∙ linked))
    | inr other ↦ (chunk, item_at-without_item m.items x chunk other ∙ at)
  ];
}

spares_reclaims : (m : Machine) (chunks : List ChunkId) → AreDead m chunks → Spares m (fold after_reclaim m chunks)
spares_reclaims m [] are = spares_items m m refl
spares_reclaims m (c ∷ chunks) are =
    spares_then m (after_reclaim m c) (fold after_reclaim m (c ∷ chunks))
    (spares_reclaim m c (are.dead c (omega (arith, times-cons c c chunks, ap truth (is_chunk-same c)))))
    (spares_reclaims (after_reclaim m c) chunks (dead_rest m c chunks are))

spares_swept : (m : Machine) (class : ℕ) → IsLawful m → HasClass m.slabs class → Spares m (machine_after_sweep m class)
spares_swept m class lawful valid = spares_reclaims m (dead_chunks m class) (are_dead_swept m class lawful valid)

spares_sweeps : (m : Machine) (count : ℕ) → IsLawful m → count ≤ length m.slabs.classes → Spares m (fold machine_after_sweep m (range_with_len 1 count))
spares_sweeps m zero lawful within = spares_items m m refl
spares_sweeps m (suc count) lawful within =
    let now : Machine = fold machine_after_sweep m (range_with_len 1 count) in
    let goes : Proceeds m now = proceeds_sweeps m count lawful (omega (arith, within)) in
    let so_far : Spares m now = spares_sweeps m count lawful (omega (arith, within)) in
    let valid : HasClass now.slabs (count + 1) = (omega arith, omega (arith, within, classes-sweeps m (range_with_len 1 count))) in
    let more : machine_after_sweep now (count + 1) ≡ fold machine_after_sweep m (range_with_len 1 (suc count))
    = sweeps_more m now count refl ∙ ap (λ n. fold machine_after_sweep m (range_with_len 1 n)) (add-one count) in
    subst (λ (n : Machine). Spares m n) more
    (spares_then m now (machine_after_sweep now (count + 1)) so_far (spares_swept now (count + 1) goes.lawful valid))

pub spares_all_swept : (m : Machine) → IsLawful m → Spares m (all_swept m)
spares_all_swept m lawful = spares_sweeps m (length m.slabs.classes) lawful (omega arith)

spares_page : (m : Machine) (class : ℕ) (page : Option ℕ) → Spares m (with_new_page m class page)
spares_page m class None = spares_items m m refl
spares_page m class (Some page) = spares_items m (with_new_page m class (Some page)) refl

spares_extended : (m : Machine) (class : ℕ) → Spares m (machine_after_growth m class)
spares_extended m class = extended_way (has_free m class)
  where
    extended_way : (b : Bool) → Spares m (if b then m else with_new_page m class (next_page m.slabs class))
    extended_way true = spares_items m m refl
    extended_way false = spares_page m class (next_page m.slabs class)

pub spares_stocked : (m : Machine) (class : ℕ) → IsLawful m → HasClass m.slabs class → Spares m (machine_after_stocking m class)
spares_stocked m class lawful valid = stocked_way (has_free m class)
  where
    stocked_way : (b : Bool) → Spares m (if b then m else machine_after_growth (machine_after_sweep m class) class)
    stocked_way true = spares_items m m refl
    stocked_way false =
        spares_then m (machine_after_sweep m class) (machine_after_growth (machine_after_sweep m class) class) (spares_swept m class lawful valid) (spares_extended (machine_after_sweep m class) class)

-- what was put back is free
freed : (m : Machine) (class : ℕ) (chunk : ChunkId) → HasClass m.slabs class → class_of_page m.slabs chunk.page ≡ class
    → first_free (class_at (with_eviction m class (Some chunk)).slabs class) ≡ Some chunk
freed m class chunk valid own =
    let back : SlabState = after_back m.slabs chunk in
    let valid_back : HasClass back class = (valid.0, rw (length-set m.slabs.classes _ _) valid.1) in
    let put : class_at back class ≡ put_back (class_of_chunk m.slabs chunk) chunk
    = ap (class_at back) (sym own) ∙ class_at-with_class_same m.slabs (class_of_page m.slabs chunk.page) (put_back (class_of_chunk m.slabs chunk) chunk) (rw own valid) in
    ap first_free (class_at-with_class_same back class (class_after_eviction (class_at back class)) valid_back)
    ∙ ap (λ (c : ClassState). first_free (class_after_eviction c)) put

-- a set that finds no chunk evicts nothing
pub spares_refused : (m : Machine) (class : ℕ) → IsLawful m → HasClass m.slabs class → supply m class ≡ None → Spares m (machine_after_supply m class)
spares_refused m class lawful valid none = relieved_way (has_free s class) none
  where
    s : Machine
    s = machine_after_stocking m class

    first : Spares m s
    first = spares_stocked m class lawful valid

    evicted_way : (found : Option ChunkId) → victim s class ≡ found → first_free (class_at (with_eviction s class found).slabs class) ≡ None
        → Spares m (with_eviction s class found)
    evicted_way None is none = first
    evicted_way (Some chunk) is none =
        let there = IsClass-stocked m class valid in
        let goes : Proceeds m s = proceeds_stocked m class lawful valid in
        let listed : 1 ≤ times_in chunk (class_at s.slabs class).order
        = times_from_Contains chunk (class_at s.slabs class).order (found_holds (has_unheld_linked_item s) (class_at s.slabs class).order eviction_tries chunk is).1 in
        let own : class_of_page s.slabs chunk.page ≡ class
        = page_of_listed (off s.slabs) class chunk goes.lawful.kept.accounted there (omega (arith, listed)) in
        absurd (none-some chunk (sym none ∙ freed s class chunk there own))

    relieved_way : (b : Bool) → first_free (class_at (if b then s else with_eviction s class (victim s class)).slabs class) ≡ None
        → Spares m (if b then s else with_eviction s class (victim s class))
    relieved_way true none = first
    relieved_way false none = evicted_way (victim s class) refl none
