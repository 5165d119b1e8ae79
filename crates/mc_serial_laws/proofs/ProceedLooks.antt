-- The machine goes on by itself: the mover looks at the chunks of the moving page, one after another.
use Rattle.std.proofs.Common.{◌≡◌, ℕ, ◌<◌, suc, zero, Bool, true, false, Option, Some, None, refl, ap, sym, ◌∙◌, arith}
use Rattle.std.specs.Prelude.{nat_lt, if◌then◌else◌}
use Rattle.std.specs.Option.{option_map}
use Rattle.std.proofs.lemmas.Bool.{false≢true, ltb-true}
use Rattle.std.proofs.lemmas.Bool.Decides.{nat_tests}
use Rattle.mc_pages.specs.declared.ids.ChunkId.{ChunkId}
use Rattle.mc_pages.specs.declared.ids.Moving.{Moving}
use Rattle.mc_pages.specs.declared.moves.Found.{Found}
use Rattle.mc_pages.specs.declared.moves.Found.TheVariants.{Cleared, Busy, Already}
use Rattle.mc_pages.specs.ClassState.{times_in}
use Rattle.mc_pages.specs.SlabState.{HasClass, class_at, class_of_page}
use Rattle.mc_pages.specs.Accounted.{IsMove, is_cleared}
use Rattle.mc_pages.specs.Changes.{after_clear}
use Rattle.mc_pages.specs.InOrder.{AreSlabsInOrder}
use Rattle.mc_pages.specs.Moves.{CanPass, after_passed, chunk_at_position, is_held_up}
use Rattle.mc_pages.proofs.Kept.{IsInOrder-after_passed}
use Rattle.mc_serial_spec.specs.Items.{has_linked_item}
use Rattle.mc_serial_spec.specs.Holds.{is_held}
use Rattle.mc_serial_spec.specs.Machine.{Machine, is_dead_in, has_unheld_linked_item, machine_after_sweep}
use Rattle.mc_serial_spec.specs.Mover.{MoverCount, MoverLook, is_at_end, looked_at, machine_after_save, target, with_chunk, with_chunks, with_cleared, with_looked, with_saved}
use Rattle.std.proofs.lemmas.Bool.{and_parts, not-true}
use Rattle.mc_serial_spec.proofs.KeptMoverClear.{idle_here, own_from_cut}
use Rattle.mc_serial_spec.proofs.KeptMoverPass.{can_pass, kept_moved, position_cut}
use Rattle.mc_serial_spec.proofs.MoverSaves.{class_swept, idle_swept, moving-swept, own_swept, target_free}
use Rattle.mc_serial_laws.proofs.Lawful.{IsLawful, off, Proceeds, proceeds_same, proceeds_slabs, proceeds_then}
use Rattle.mc_serial_laws.proofs.ProceedClears.{Clears, clears_dead, clears_free, clears_idle, clears_rescued}
use Rattle.mc_serial_laws.proofs.ProceedSweeps.{proceeds_swept}

-- the machine went on, and the chunk is cleared where nothing held it up
pub record LooksOn (m : Machine) (class : ℕ) (chunk : ChunkId) (looked : MoverLook) : Type 0 where
  pub proceeds : Proceeds m looked.machine
  pub clears : is_held_up looked.found ≡ false → is_cleared looked.machine.slabs class chunk ≡ true

looks_cleared : (m new : Machine) (class : ℕ) (chunk : ChunkId) (found : Found) → Clears m new class chunk → LooksOn m class chunk (record { machine = new; found = found })
looks_cleared m new class chunk found clears = record { proceeds = clears.proceeds; clears = λ done. clears.cleared }

-- an idle item is saved or evicted
saves_to : (m : Machine) (class : ℕ) (chunk : ChunkId) (found : Option ChunkId) → IsLawful m → HasClass m.slabs class
    → option_map (λ (move : Moving). move.page) m.slabs.moving ≡ Some chunk.page → class_of_page m.slabs chunk.page ≡ class → has_unheld_linked_item m chunk ≡ true
    → target m class chunk.page ≡ found → LooksOn m class chunk (with_saved m chunk found)
saves_to m class chunk None lawful valid moving own idle is =
    looks_cleared m (with_cleared m chunk) class chunk (with_saved m chunk None).found (clears_idle m class chunk lawful valid moving own idle)
saves_to m class chunk (Some new) lawful valid moving own idle is =
    let item = idle_here m m chunk refl idle in
    let unheld : is_held m.holds chunk ≡ false = not-true (is_held m.holds chunk) (and_parts (has_linked_item m.items chunk) _ idle).1 in
    looks_cleared m (with_saved m chunk (Some new)).machine class chunk (with_saved m chunk (Some new)).found
    (clears_rescued m class chunk new item.0 lawful own moving item.1 item.2 unheld (rw own (target_free m class chunk.page new is).0))

-- a chunk of the moving page, which its class cut
module _ (m : Machine) (class : ℕ) (chunk : ChunkId) (lawful : IsLawful m) (valid : HasClass m.slabs class)
    (moving : option_map (λ (move : Moving). move.page) m.slabs.moving ≡ Some chunk.page) (own : class_of_page m.slabs chunk.page ≡ class) where
  saves : has_unheld_linked_item m chunk ≡ true → LooksOn m class chunk (machine_after_save m class chunk)
  saves idle =
      let first : Proceeds m (machine_after_sweep m class) = proceeds_swept m class lawful valid in
      let there : LooksOn (machine_after_sweep m class) class chunk (machine_after_save m class chunk)
      = saves_to (machine_after_sweep m class) class chunk (target (machine_after_sweep m class) class chunk.page) first.lawful (class_swept m class class valid)
      (ap (option_map (λ (move : Moving). move.page)) (moving-swept m class) ∙ moving)
      (own_swept m (machine_after_sweep m class) class chunk.page refl own) (idle_swept m class chunk idle) refl in
      record { proceeds = proceeds_then m (machine_after_sweep m class) (machine_after_save m class chunk).machine first there.proceeds; clears = there.clears }

  look_ways : (before free dead idle : Bool) → is_cleared m.slabs class chunk ≡ before → nat_lt 0 (times_in chunk (class_at m.slabs class).free) ≡ free
      → is_dead_in m chunk ≡ dead → has_unheld_linked_item m chunk ≡ idle → LooksOn m class chunk (
      if before then record { machine = m; found = Already }
      else if free then record { machine = record m { slabs = after_clear m.slabs chunk }; found = Cleared }
      else if dead then record { machine = with_cleared m chunk; found = Cleared }
      else if idle then machine_after_save m class chunk
      else record { machine = m; found = Busy }
      )
  look_ways true free dead idle is some gone rests = record { proceeds = proceeds_same m lawful; clears = λ done. is }
  look_ways false true dead idle is some gone rests =
      looks_cleared m (record m { slabs = after_clear m.slabs chunk }) class chunk Cleared
      (clears_free m class chunk lawful valid moving own (ltb-true 0 (times_in chunk (class_at m.slabs class).free) some))
  look_ways false false true idle is some gone rests =
      looks_cleared m (with_cleared m chunk) class chunk Cleared (clears_dead m class chunk lawful valid moving own gone)
  look_ways false false false true is some gone rests = saves rests
  look_ways false false false false is some gone rests = record { proceeds = proceeds_same m lawful; clears = λ done. absurd (false≢true (sym done)) }

  pub looks_on : LooksOn m class chunk (looked_at m class chunk)
  looks_on =
      look_ways (is_cleared m.slabs class chunk) (nat_lt 0 (times_in chunk (class_at m.slabs class).free)) (is_dead_in m chunk) (has_unheld_linked_item m chunk)
      refl refl refl refl

-- the chunk at the position is looked at and passed
proceeds_looked : (c : MoverCount) (move : Moving) → IsLawful c.machine → c.machine.slabs.moving ≡ Some move → is_at_end c.machine move ≡ false
    → Proceeds c.machine (with_looked c.counts (looked_at c.machine move.src (chunk_at_position move))).machine
proceeds_looked c move lawful runs inside =
    let m : Machine = c.machine in
    let chunk : ChunkId = chunk_at_position move in
    let looked : MoverLook = looked_at m move.src chunk in
    let is : IsMove (off m.slabs) move = lawful.kept.accounted.move move runs in
    let within : move.at < (class_at m.slabs move.src).per_page = grind (arith, nat_tests) in
    let own : class_of_page m.slabs chunk.page ≡ move.src = own_from_cut m.slabs move.src chunk (position_cut (off m.slabs) move is lawful.kept.whole within) in
    let on : LooksOn m move.src chunk looked = looks_on m move.src chunk lawful is.src (ap (option_map (λ (move : Moving). move.page)) runs) own in
    let can : CanPass looked.machine.slabs looked.found move = can_pass m looked.machine looked.found move refl runs within on.clears in
    let can_off : CanPass (off looked.machine.slabs) looked.found move = record { runs = can.runs; within = can.within; done = can.done } in
    let order : AreSlabsInOrder (off (after_passed looked.machine.slabs looked.found)) on.proceeds.lawful.granted
    = IsInOrder-after_passed (off looked.machine.slabs) on.proceeds.lawful.granted looked.found move on.proceeds.lawful.order can_off in
    proceeds_then m looked.machine (record looked.machine { slabs = after_passed looked.machine.slabs looked.found }) on.proceeds
    (proceeds_slabs looked.machine (after_passed looked.machine.slabs looked.found) on.proceeds.lawful.granted on.proceeds.lawful
    (kept_moved looked.machine.table (off looked.machine.slabs) looked.machine.items _ _ _ _ on.proceeds.lawful.kept order.accounted) order (omega arith) refl)

-- one chunk, and more of them
proceeds_chunk : (c : MoverCount) (moving : Option Moving) → IsLawful c.machine → c.machine.slabs.moving ≡ moving → Proceeds c.machine (with_chunk c moving).machine
proceeds_chunk c None lawful is = proceeds_same c.machine lawful
proceeds_chunk c (Some move) lawful is = chunk_way (is_at_end c.machine move) refl
  where
    chunk_way : (b : Bool) → is_at_end c.machine move ≡ b
        → Proceeds c.machine (if b then c else with_looked c.counts (looked_at c.machine move.src (chunk_at_position move))).machine
    chunk_way true at_end = proceeds_same c.machine lawful
    chunk_way false inside = proceeds_looked c move lawful is inside

pub proceeds_chunks : (count : ℕ) (c : MoverCount) → IsLawful c.machine → Proceeds c.machine (with_chunks count c).machine
proceeds_chunks zero c lawful = proceeds_same c.machine lawful
proceeds_chunks (suc count) c lawful =
    let next : MoverCount = with_chunk c c.machine.slabs.moving in
    let first : Proceeds c.machine next.machine = proceeds_chunk c c.machine.slabs.moving lawful refl in
    proceeds_then c.machine next.machine (with_chunks count next).machine first (proceeds_chunks count next first.lawful)
