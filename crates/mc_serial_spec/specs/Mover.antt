-- The mover: what a turn does with the page on the move.
use Rattle.std.specs.Prelude.{ℕ, zero, suc, ◌+◌, ◌≤◌, ◌==◌, Bool, true, false, not, nat_lt, leb, if◌then◌else◌, find, Option, Some, None}
use Rattle.mc_pages.specs.declared.ids.ChunkId.{ChunkId}
use Rattle.mc_pages.specs.declared.ids.Moving.{Moving}
use Rattle.mc_pages.specs.declared.moves.Found.{Found}
use Rattle.mc_pages.specs.declared.moves.Found.TheVariants.{Cleared, Rescued, Evicted, Busy, Locked, Already}
use Rattle.mc_pages.specs.SlabState.{class_at}
use Rattle.mc_pages.specs.ClassState.{times_in}
use Rattle.mc_pages.specs.Changes.{after_clear, after_replace}
use Rattle.mc_pages.specs.Accounted.{is_cleared}
use Rattle.mc_pages.specs.Moves.{after_finish, after_passed, after_wrap, chunk_at_position}
use Rattle.mc_serial_spec.specs.declared.turn.Counts.{Counts}
use Rattle.mc_serial_spec.specs.declared.turn.Ending.{Ending}
use Rattle.mc_serial_spec.specs.declared.turn.Ending.TheVariants.{Idle, Went, Finished}
use Rattle.mc_serial_spec.specs.Items.{with_moved_item, without_item}
use Rattle.mc_serial_spec.specs.Machine.{Machine, is_dead_in, has_unheld_linked_item, machine_after_sweep, with_cut_page}

-- a machine, and what the mover found on its way to it
pub record MoverLook : Type 0 where
  pub machine : Machine
  pub found : Found

-- the class's first free chunk off the page
abbrev pub target : Machine → ℕ → ℕ → Option ChunkId
target m class page = find (λ chunk. not (chunk.page == page)) (class_at m.slabs class).free

-- the chunk and its item are cleared away
abbrev pub with_cleared : Machine → ChunkId → Machine
with_cleared m chunk = record m { slabs = after_clear m.slabs chunk; items = without_item m.items chunk }

-- an item's chunk is cleared: the item goes to the new chunk, in the old one's place of the hand-out order, or is evicted where there is no
-- new chunk
abbrev pub with_saved : Machine → ChunkId → Option ChunkId → MoverLook
with_saved m old None = record { machine = with_cleared m old; found = Evicted }
with_saved m old (Some new) = record {
  machine = record m { slabs = after_clear (after_replace m.slabs new old) old; items = with_moved_item m.items old new };
  found = Rescued;
}

-- an idle item's chunk is cleared: the class's dead chunks are put back before, so that the item may go to one of them
abbrev pub machine_after_save : Machine → ℕ → ChunkId → MoverLook
machine_after_save m class chunk = let ready = machine_after_sweep m class in with_saved ready chunk (target ready class chunk.page)

-- what the mover does with this chunk of the moving page and of the class
abbrev pub looked_at : Machine → ℕ → ChunkId → MoverLook
looked_at m class chunk =
    if is_cleared m.slabs class chunk then record { machine = m; found = Already }
    else if nat_lt 0 (times_in chunk (class_at m.slabs class).free) then record { machine = record m { slabs = after_clear m.slabs chunk }; found = Cleared }
    else if is_dead_in m chunk then record { machine = with_cleared m chunk; found = Cleared }
    else if has_unheld_linked_item m chunk then machine_after_save m class chunk
    else record { machine = m; found = Busy }

-- nothing was done yet
abbrev pub zero_counts : Counts
zero_counts = record { cleared = 0; rescued = 0; evicted = 0; busy = 0; locked = 0 }

-- no count is above n
pub record AreAtMost (most : ℕ) (counts : Counts) : Type 0 where
  pub cleared : counts.cleared ≤ most
  pub rescued : counts.rescued ≤ most
  pub evicted : counts.evicted ≤ most
  pub busy : counts.busy ≤ most
  pub locked : counts.locked ≤ most

-- the counts after one more chunk was found; a rescued or evicted one counts as cleared, too
abbrev pub with_count : Counts → Found → Counts
with_count counts Cleared = record counts { cleared = counts.cleared + 1 }
with_count counts Rescued = record counts { cleared = counts.cleared + 1; rescued = counts.rescued + 1 }
with_count counts Evicted = record counts { cleared = counts.cleared + 1; evicted = counts.evicted + 1 }
with_count counts Busy = record counts { busy = counts.busy + 1 }
with_count counts Locked = record counts { locked = counts.locked + 1 }
with_count counts Already = counts

-- a machine, and what the mover did on the way to it
pub record MoverCount : Type 0 where
  pub machine : Machine
  pub counts : Counts

-- the position is at the page's end
abbrev pub is_at_end : Machine → Moving → Bool
is_at_end m move = leb (class_at m.slabs move.src).per_page move.at

-- the chunk at the position was looked at and passed
abbrev pub with_looked : Counts → MoverLook → MoverCount
with_looked counts looked = record {
  machine = record looked.machine { slabs = after_passed looked.machine.slabs looked.found };
  counts = with_count counts looked.found;
}

-- one chunk is looked at, unless no page moves or all of the page was looked at
abbrev pub with_chunk : MoverCount → Option Moving → MoverCount
with_chunk c None = c
with_chunk c (Some move) = if is_at_end c.machine move then c else with_looked c.counts (looked_at c.machine move.src (chunk_at_position move))

-- the state after at most n looks at chunks
abbrev pub with_chunks : ℕ → MoverCount → MoverCount
with_chunks zero c = c
with_chunks (suc count) c = with_chunks count (with_chunk c c.machine.slabs.moving)

-- the machine after one turn or more, their counts, and how the last one ended
pub record TurnsOfMover : Type 0 where
  pub machine : Machine
  pub counts : Counts
  pub ending : Ending

-- the move ends, and a class cuts the page
abbrev pub with_finish : Machine → Moving → Machine
with_finish m move = let slabs = after_finish m.slabs (Some move) in
    record m { slabs = if move.dst == 0 then slabs else with_cut_page slabs move.dst move.page }

-- the end of a turn: at the page's end the pass begins anew, or the move ends where nothing held it up
abbrev pub with_end : MoverCount → Option Moving → TurnsOfMover
with_end c None = record { machine = c.machine; counts = c.counts; ending = Idle }
with_end c (Some move) =
    if not (is_at_end c.machine move) then record { machine = c.machine; counts = c.counts; ending = Went }
    else if nat_lt 0 move.busy then record { machine = record c.machine { slabs = after_wrap c.machine.slabs }; counts = c.counts; ending = Went }
    else record { machine = with_finish c.machine move; counts = c.counts; ending = Finished }

-- one turn, which goes on counting from these counts
abbrev pub turns_after_one : Machine → Counts → TurnsOfMover
turns_after_one m counts =
    let begun = record m { turns = m.turns + 1 } in
    let c = with_chunks m.bulk (record { machine = begun; counts = counts }) in
    with_end c c.machine.slabs.moving

-- the most turns of a run
abbrev pub most_turns : ℕ
most_turns = 1000000

-- the last turn neither had nothing to do nor ended a move
abbrev pub is_went : Ending → Bool
is_went Went = true
is_went ending = false

-- one turn and then more, until n are done or one is idle or ends a move; none where the run has no turns left
abbrev pub turns_from : ℕ → TurnsOfMover → Option TurnsOfMover
turns_from zero t = Some t
turns_from (suc count) t =
    if nat_lt t.machine.turns most_turns then (
    let next = turns_after_one t.machine t.counts in
    if is_went next.ending then turns_from count next else Some next)
    else None

-- n turns, as far as there is something to do
abbrev pub after_turns : Machine → ℕ → Option TurnsOfMover
after_turns m count = turns_from count (record { machine = m; counts = zero_counts; ending = Idle })
