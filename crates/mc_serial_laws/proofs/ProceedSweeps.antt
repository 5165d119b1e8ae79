-- The machine goes on by itself: dead chunks are put back.
use Rattle.std.proofs.Common.{◌≡◌, ℕ, ◌+◌, ◌≤◌, List, [], ◌∷◌, length, suc, zero, Bool, true, false, Some, refl, ap, ◌∙◌, arith, add-one, subst}
use Rattle.std.specs.Prelude.{filter, fold}
use Rattle.std.specs.List.{range_with_len}
use Rattle.std.proofs.lemmas.Bool.{and_parts, not-true}
use Rattle.mc_pages.specs.declared.ids.ChunkId.{ChunkId}
use Rattle.mc_pages.specs.Accounted.{truth}
use Rattle.mc_pages.specs.ClassState.{is_chunk, times_in}
use Rattle.mc_pages.specs.SlabState.{HasClass, class_at, class_of_chunk}
use Rattle.mc_pages.specs.Changes.{after_back}
use Rattle.mc_pages.specs.InOrder.{AreSlabsInOrder}
use Rattle.mc_pages.proofs.Chunks.{times-cons, is_chunk-same, same_from_is_chunk}
use Rattle.mc_pages.proofs.Kept.{IsInOrder-after_back}
use Rattle.mc_serial_spec.specs.Item.{Item}
use Rattle.mc_serial_spec.specs.Items.{item_in_chunk, has_unlinked_item}
use Rattle.mc_serial_spec.specs.Holds.{is_held}
use Rattle.mc_serial_spec.specs.Machine.{Machine, is_dead_in, dead_chunks, after_reclaim, machine_after_sweep, all_swept}
use Rattle.mc_serial_spec.proofs.Bounds.{listed_once}
use Rattle.mc_serial_spec.proofs.KeptChanges.{kept_reclaim}
use Rattle.mc_serial_spec.proofs.KeptMoverClear.{contains_counted, dead_here, handed_item}
use Rattle.mc_serial_spec.proofs.Stocks.{classes-sweeps, sweeps_more}
use Rattle.mc_serial_spec.proofs.Sweeps.{is_dead-reclaimed}
use Rattle.mc_serial_laws.proofs.Lawful.{IsLawful, off, Proceeds, proceeds_same, proceeds_then, proceeds_without}

-- the chunk of an item goes back to its class
pub order_back : (m : Machine) (chunk : ChunkId) (item : Item) (lawful : IsLawful m) → item_in_chunk m.items chunk ≡ Some item
    → AreSlabsInOrder (off (after_back m.slabs chunk)) lawful.granted
order_back m chunk item lawful there =
    IsInOrder-after_back (off m.slabs) lawful.granted chunk lawful.order
    (contains_counted chunk (class_of_chunk m.slabs chunk).order (handed_item m.table (off m.slabs) m.items chunk item lawful.kept there))

pub proceeds_reclaim : (m : Machine) (chunk : ChunkId) → IsLawful m → is_dead_in m chunk ≡ true → Proceeds m (after_reclaim m chunk)
proceeds_reclaim m chunk lawful dead =
    let found = dead_here m m chunk refl dead in
    let parts = and_parts (has_unlinked_item m.items chunk) _ dead in
    let order : AreSlabsInOrder (off (after_back m.slabs chunk)) lawful.granted = order_back m chunk found.0 lawful found.1 in
    proceeds_without m (after_back m.slabs chunk) chunk found.0 lawful found.1
    (not-true (is_held m.holds chunk) parts.1)
    (kept_reclaim m.table (off m.slabs) m.items chunk lawful.kept order.accounted parts.0) order refl

-- some chunks are dead, each of them once in the list
pub record AreDead (m : Machine) (chunks : List ChunkId) : Type 0 where
  pub dead : (chunk : ChunkId) → 1 ≤ times_in chunk chunks → is_dead_in m chunk ≡ true
  pub once : (chunk : ChunkId) → times_in chunk chunks ≤ 1

-- when the first is put back the others are dead still
pub dead_rest : (m : Machine) (c : ChunkId) (chunks : List ChunkId) → AreDead m (c ∷ chunks) → AreDead (after_reclaim m c) chunks
dead_rest m c chunks are = record {
  dead = λ chunk there.
      let apart : is_chunk c chunk ≡ false = apart_from (is_chunk c chunk) chunk there refl in
      is_dead-reclaimed m c chunk apart ∙ are.dead chunk (omega (arith, there, times-cons chunk c chunks));
  once = λ chunk. omega (arith, are.once chunk, times-cons chunk c chunks);
}
  where
    apart_from : (b : Bool) (chunk : ChunkId) → 1 ≤ times_in chunk chunks → is_chunk c chunk ≡ b → b ≡ false
    apart_from true chunk there is = absurd (omega (arith, there, are.once chunk, times-cons chunk c chunks, ap truth is))
    apart_from false chunk there is = refl

proceeds_reclaims : (m : Machine) (chunks : List ChunkId) → IsLawful m → AreDead m chunks → Proceeds m (fold after_reclaim m chunks)
proceeds_reclaims m [] lawful are = proceeds_same m lawful
proceeds_reclaims m (c ∷ chunks) lawful are =
    let first : Proceeds m (after_reclaim m c)
    = proceeds_reclaim m c lawful (are.dead c (omega (arith, times-cons c c chunks, ap truth (is_chunk-same c)))) in
    proceeds_then m (after_reclaim m c) (fold after_reclaim m (c ∷ chunks)) first
    (proceeds_reclaims (after_reclaim m c) chunks first.lawful (dead_rest m c chunks are))

-- what passes a test stands in the list at most as often as before, and passes
times-filter-le : (p : ChunkId → Bool) (chunk : ChunkId) (chunks : List ChunkId) → times_in chunk (filter p chunks) ≤ times_in chunk chunks
times-filter-le p chunk [] = omega arith
times-filter-le p chunk (c ∷ chunks) = filter_step (p c) refl (times-filter-le p chunk chunks)
  where
    filter_step : (b : Bool) → p c ≡ b → times_in chunk (filter p chunks) ≤ times_in chunk chunks → times_in chunk (filter p (c ∷ chunks)) ≤ times_in chunk (c ∷ chunks)
    filter_step true is more = rw is (omega (arith, more, times-cons chunk c chunks, times-cons chunk c (filter p chunks)))
    filter_step false is more = rw is (omega (arith, more, times-cons chunk c chunks))

passes_filter : (p : ChunkId → Bool) (chunk : ChunkId) (chunks : List ChunkId) → 1 ≤ times_in chunk (filter p chunks) → p chunk ≡ true
passes_filter p chunk [] there = absurd (omega (arith, there))
passes_filter p chunk (c ∷ chunks) there = filter_step (p c) (is_chunk c chunk) refl refl there (passes_filter p chunk chunks)
  where
    filter_step : (b s : Bool) → p c ≡ b → is_chunk c chunk ≡ s → 1 ≤ times_in chunk (filter p (c ∷ chunks))
        → (1 ≤ times_in chunk (filter p chunks) → p chunk ≡ true) → p chunk ≡ true
    filter_step true true is same some more = rw (← same_from_is_chunk c chunk same) is
    filter_step true false is other some more =
        let here : 1 ≤ times_in chunk (c ∷ filter p chunks) = rw is at some in
        more (omega (arith, here, times-cons chunk c (filter p chunks), ap truth other))
    filter_step false s is any some more = more (rw is at some)

-- so are a class's dead chunks
pub are_dead_swept : (m : Machine) (class : ℕ) → IsLawful m → HasClass m.slabs class → AreDead m (dead_chunks m class)
are_dead_swept m class lawful valid =
    let order : List ChunkId = (class_at m.slabs class).order in
    record {
      dead = λ chunk there. passes_filter (is_dead_in m) chunk order there;
      once = λ chunk.
          omega (arith, times-filter-le (is_dead_in m) chunk order, listed_once m.table (off m.slabs) m.items class lawful.kept valid chunk);
    }

pub proceeds_swept : (m : Machine) (class : ℕ) → IsLawful m → HasClass m.slabs class → Proceeds m (machine_after_sweep m class)
proceeds_swept m class lawful valid = proceeds_reclaims m (dead_chunks m class) lawful (are_dead_swept m class lawful valid)

-- one class after another
pub proceeds_sweeps : (m : Machine) (count : ℕ) → IsLawful m → count ≤ length m.slabs.classes → Proceeds m (fold machine_after_sweep m (range_with_len 1 count))
proceeds_sweeps m zero lawful within = proceeds_same m lawful
proceeds_sweeps m (suc count) lawful within =
    let now : Machine = fold machine_after_sweep m (range_with_len 1 count) in
    let so_far : Proceeds m now = proceeds_sweeps m count lawful (omega (arith, within)) in
    let valid : HasClass now.slabs (count + 1) = (omega arith, omega (arith, within, classes-sweeps m (range_with_len 1 count))) in
    let one : Proceeds now (machine_after_sweep now (count + 1)) = proceeds_swept now (count + 1) so_far.lawful valid in
    let more : machine_after_sweep now (count + 1) ≡ fold machine_after_sweep m (range_with_len 1 (suc count))
    = sweeps_more m now count refl ∙ ap (λ n. fold machine_after_sweep m (range_with_len 1 n)) (add-one count) in
    subst (λ (n : Machine). Proceeds m n) more (proceeds_then m now (machine_after_sweep now (count + 1)) so_far one)

pub proceeds_all_swept : (m : Machine) → IsLawful m → Proceeds m (all_swept m)
proceeds_all_swept m lawful = proceeds_sweeps m (length m.slabs.classes) lawful (omega arith)
