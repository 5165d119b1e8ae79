-- The mover goes on from a chunk, or begins its pass anew: the machine stays consistent. And what a look leaves of the move.
use Rattle.std.proofs.Common.{◌≡◌, ℕ, ◌<◌, List, [], ◌∷◌, Bool, true, false, Option, Some, None, refl, ap, ◌∙◌, eq-eqb, lt-ltb}
use Rattle.std.specs.Prelude.{fold, map, if◌then◌else◌}
use Rattle.std.proofs.lemmas.Bool.{and_from}
use Rattle.mc_classes.specs.Classes.{Classes}
use Rattle.mc_pages.specs.declared.ids.ChunkId.{ChunkId}
use Rattle.mc_pages.specs.declared.ids.Moving.{Moving}
use Rattle.mc_pages.specs.declared.moves.Found.{Found}
use Rattle.mc_pages.specs.ClassState.{ClassState, class_after_clear, put_back, class_after_replacement}
use Rattle.mc_pages.specs.SlabState.{SlabState, class_at, class_of_page, class_of_chunk}
use Rattle.mc_pages.specs.Accounted.{is_cut, is_cleared, IsMove, IsAccounted}
use Rattle.mc_pages.specs.Changes.{with_class, after_back, after_clear, after_replace}
use Rattle.mc_pages.specs.Moves.{is_held_up, chunk_at_position, CanPass}
use Rattle.mc_serial_spec.specs.Items.{Items}
use Rattle.mc_serial_spec.specs.Consistent.{IsConsistent}
use Rattle.mc_serial_spec.specs.Machine.{Machine, is_dead_in, has_unheld_linked_item, dead_chunks, after_reclaim, machine_after_sweep}
use Rattle.mc_serial_spec.specs.Mover.{MoverLook, looked_at, machine_after_save, target, with_cleared, with_saved}
use Rattle.mc_pages.specs.ClassState.{times_in}
use Rattle.std.specs.Prelude.{nat_lt}
use Rattle.mc_pages.specs.declared.moves.Found.TheVariants.{Cleared, Busy, Already}
use Rattle.mc_pages.proofs.ClassChanges.{per_pages-with_class}
use Rattle.mc_pages.proofs.Cuts.{per_page-map}

-- the position and the counters are other ones
pub kept_moved : (table : Classes) (slabs : SlabState) (items : Items) (moving : Option Moving) (rescues evictions busy : ℕ)
    → IsConsistent table slabs items
    → IsAccounted (record slabs { moving = moving; rescues = rescues; evictions_nomem = evictions; busy = busy })
    → IsConsistent table (record slabs { moving = moving; rescues = rescues; evictions_nomem = evictions; busy = busy }) items
kept_moved table slabs items moving rescues evictions busy kept accounted = record {
  sound = kept.sound;
  classes = kept.classes;
  per_page = kept.per_page;
  page = kept.page;
  limit = kept.limit;
  whole = kept.whole;
  accounted = accounted;
  one_link = kept.one_link;
  handed_out = kept.handed_out;
  stored = kept.stored;
}

-- the move is the same, and so is what it goes by
pub record KeepsMove (slabs new : SlabState) : Type 0 where
  pub moving : new.moving ≡ slabs.moving
  pub per_page : map (λ (c : ClassState). c.per_page) new.classes ≡ map (λ (c : ClassState). c.per_page) slabs.classes

keeps_same : (slabs : SlabState) → KeepsMove slabs slabs
keeps_same slabs = record { moving = refl; per_page = refl }

keeps_then : (slabs new last : SlabState) → KeepsMove slabs new → KeepsMove new last → KeepsMove slabs last
keeps_then slabs new last first next = record { moving = next.moving ∙ first.moving; per_page = next.per_page ∙ first.per_page }

keeps_class : (slabs : SlabState) (class : ℕ) (state : ClassState) → state.per_page ≡ (class_at slabs class).per_page → KeepsMove slabs (with_class slabs class state)
keeps_class slabs class state same = record { moving = refl; per_page = per_pages-with_class slabs class state same }

keeps_clear : (slabs : SlabState) (chunk : ChunkId) → KeepsMove slabs (after_clear slabs chunk)
keeps_clear slabs chunk = keeps_class slabs (class_of_page slabs chunk.page) (class_after_clear (class_of_chunk slabs chunk) chunk) refl

keeps_replace : (slabs : SlabState) (new old : ChunkId) → KeepsMove slabs (after_replace slabs new old)
keeps_replace slabs new old = keeps_class slabs (class_of_page slabs old.page) (class_after_replacement (class_of_chunk slabs old) new old) refl

keeps_reclaims : (m : Machine) (chunks : List ChunkId) → KeepsMove m.slabs (fold after_reclaim m chunks).slabs
keeps_reclaims m [] = keeps_same m.slabs
keeps_reclaims m (c ∷ chunks) =
    keeps_then m.slabs (after_back m.slabs c) (fold after_reclaim m (c ∷ chunks)).slabs
    (keeps_class m.slabs (class_of_page m.slabs c.page) (put_back (class_of_chunk m.slabs c) c) refl) (keeps_reclaims (after_reclaim m c) chunks)

keeps_saved : (m : Machine) (old : ChunkId) (new : Option ChunkId) → KeepsMove m.slabs (with_saved m old new).machine.slabs
keeps_saved m old None = keeps_clear m.slabs old
keeps_saved m old (Some new) =
    keeps_then m.slabs (after_replace m.slabs new old) (after_clear (after_replace m.slabs new old) old)
    (keeps_replace m.slabs new old) (keeps_clear (after_replace m.slabs new old) old)

-- whichever way a chunk is looked at
keeps_ways : (before free dead idle : Bool) (m : Machine) (class : ℕ) (chunk : ChunkId) → KeepsMove m.slabs (
    let looked : MoverLook =
    if before then record { machine = m; found = Already }
    else if free then record { machine = record m { slabs = after_clear m.slabs chunk }; found = Cleared }
    else if dead then record { machine = with_cleared m chunk; found = Cleared }
    else if idle then machine_after_save m class chunk
    else record { machine = m; found = Busy } in
    looked.machine.slabs
    )
keeps_ways true free dead idle m class chunk = keeps_same m.slabs
keeps_ways false true dead idle m class chunk = keeps_clear m.slabs chunk
keeps_ways false false true idle m class chunk = keeps_clear m.slabs chunk
keeps_ways false false false true m class chunk =
    keeps_then m.slabs (machine_after_sweep m class).slabs (machine_after_save m class chunk).machine.slabs (keeps_reclaims m (dead_chunks m class))
    (keeps_saved (machine_after_sweep m class) chunk (target (machine_after_sweep m class) class chunk.page))
keeps_ways false false false false m class chunk = keeps_same m.slabs

keeps_looked : (m : Machine) (class : ℕ) (chunk : ChunkId) → KeepsMove m.slabs (looked_at m class chunk).machine.slabs
keeps_looked m class chunk =
    keeps_ways (is_cleared m.slabs class chunk) (nat_lt 0 (times_in chunk (class_at m.slabs class).free)) (is_dead_in m chunk) (has_unheld_linked_item m chunk) m class chunk

-- what was looked at may be passed
pub can_pass : (m new : Machine) (found : Found) (move : Moving) → looked_at m move.src (chunk_at_position move) ≡ record { machine = new; found = found }
    → m.slabs.moving ≡ Some move → move.at < (class_at m.slabs move.src).per_page
    → (is_held_up found ≡ false → is_cleared new.slabs move.src (chunk_at_position move) ≡ true) → CanPass new.slabs found move
can_pass m new found move looked runs within done =
    let keeps : KeepsMove m.slabs new.slabs = rw (ap (λ (l : MoverLook). l.machine) looked) at (keeps_looked m move.src (chunk_at_position move)) in
    record {
      runs = keeps.moving ∙ runs;
      within = rw (per_page-map m.slabs new.slabs move.src keeps.per_page) within;
      done = done;
    }

-- the chunk at the position is cut for the source
pub position_cut : (slabs : SlabState) (move : Moving) → IsMove slabs move → slabs.uncut ≡ None → move.at < (class_at slabs move.src).per_page
    → is_cut slabs move.src (chunk_at_position move) ≡ true
position_cut slabs move is whole within =
    rw (is.owner, whole) (and_from _ _ (eq-eqb move.src move.src refl) (lt-ltb move.at (class_at slabs move.src).per_page within))

-- the move that runs
pub move_here : (m now : Machine) (move : Moving) → IsConsistent m.table m.slabs m.items → m ≡ now
    → m.slabs.moving ≡ Some move → IsMove now.slabs move
move_here m now move kept same runs = rw (← same) (kept.accounted.move move runs)
