-- The machine goes on by itself: an idle item is evicted.
use Rattle.std.proofs.Common.{◌≡◌, ℕ, Bool, true, false, Option, Some, None, refl}
use Rattle.std.specs.Prelude.{if◌then◌else◌}
use Rattle.std.proofs.lemmas.Bool.{and_parts, not-true}
use Rattle.std.proofs.lemmas.List.{length-set}
use Rattle.mc_pages.specs.declared.ids.ChunkId.{ChunkId}
use Rattle.mc_pages.specs.SlabState.{SlabState, HasClass, class_at}
use Rattle.mc_pages.specs.Changes.{after_back, after_evicted}
use Rattle.mc_pages.specs.Eviction.{eviction_tries}
use Rattle.mc_pages.specs.InOrder.{AreSlabsInOrder}
use Rattle.mc_pages.proofs.Kept.{IsInOrder-after_evicted}
use Rattle.mc_serial_spec.specs.Items.{has_linked_item, without_item}
use Rattle.mc_serial_spec.specs.Holds.{is_held}
use Rattle.mc_serial_spec.specs.Machine.{Machine, has_free, has_unheld_linked_item}
use Rattle.mc_serial_spec.specs.Supply.{machine_after_eviction, victim, with_eviction}
use Rattle.mc_serial_spec.proofs.KeptEvict.{kept_counted}
use Rattle.mc_serial_spec.proofs.KeptMoverClear.{idle_here, kept_back}
use Rattle.mc_pages.proofs.FirstFound.{found_holds}
use Rattle.mc_serial_laws.proofs.Lawful.{IsLawful, off, Proceeds, proceeds_same, proceeds_without}
use Rattle.mc_serial_laws.proofs.ProceedSweeps.{order_back}

proceeds_evicted : (m : Machine) (class : ℕ) (chunk : ChunkId) → IsLawful m → HasClass m.slabs class → has_unheld_linked_item m chunk ≡ true
    → Proceeds m (with_eviction m class (Some chunk))
proceeds_evicted m class chunk lawful valid idle =
    let found = idle_here m m chunk refl idle in
    let parts = and_parts (has_linked_item m.items chunk) _ idle in
    let back : SlabState = off (after_back m.slabs chunk) in
    let order : AreSlabsInOrder back lawful.granted = order_back m chunk found.0 lawful found.1 in
    let valid_back : HasClass back class = (valid.0, rw (length-set m.slabs.classes _ _) valid.1) in
    let counted : AreSlabsInOrder (after_evicted back class) lawful.granted = IsInOrder-after_evicted back lawful.granted class order valid_back in
    proceeds_without m (after_evicted (after_back m.slabs chunk) class) chunk found.0 lawful found.1
    (not-true (is_held m.holds chunk) parts.1)
    (kept_counted m.table back (without_item m.items chunk) class
    (kept_back m.table (off m.slabs) m.items chunk found.0 lawful.kept found.1 order.accounted) counted.accounted)
    counted refl

-- where there is a victim
proceeds_eviction : (m : Machine) (class : ℕ) (found : Option ChunkId) → IsLawful m → HasClass m.slabs class → victim m class ≡ found
    → Proceeds m (with_eviction m class found)
proceeds_eviction m class None lawful valid is = proceeds_same m lawful
proceeds_eviction m class (Some chunk) lawful valid is =
    proceeds_evicted m class chunk lawful valid (found_holds (has_unheld_linked_item m) (class_at m.slabs class).order eviction_tries chunk is).0

pub proceeds_relieved : (m : Machine) (class : ℕ) → IsLawful m → HasClass m.slabs class → Proceeds m (machine_after_eviction m class)
proceeds_relieved m class lawful valid = relieved_way (has_free m class)
  where
    relieved_way : (b : Bool) → Proceeds m (if b then m else with_eviction m class (victim m class))
    relieved_way true = proceeds_same m lawful
    relieved_way false = proceeds_eviction m class (victim m class) lawful valid refl
