-- The stages of a command: the machines between its steps. Where memory runs out, one of them is what remains.
use Rattle.std.specs.Prelude.{ℕ, zero, suc, ◌+◌, if◌then◌else◌, List, [], ◌∷◌, ◌++◌, Option, Some, None}
use Rattle.mc_classes.specs.Classes.{class_of}
use Rattle.mc_pages.specs.declared.ids.ChunkId.{ChunkId}
use Rattle.mc_pages.specs.declared.ids.Moving.{Moving}
use Rattle.mc_pages.specs.Answer.{answer_of}
use Rattle.mc_script.specs.declared.command.Command.{Command}
use Rattle.mc_script.specs.declared.command.Command.TheVariants as command
use Rattle.mc_serial_spec.specs.declared.turn.Counts.{Counts}
use Rattle.mc_serial_spec.specs.declared.turn.Ending.TheVariants.{Idle}
use Rattle.mc_serial_spec.specs.Automove.{machine_after_begin, decision, with_window}
use Rattle.mc_serial_spec.specs.Item.{item_bytes, counting_words}
use Rattle.mc_serial_spec.specs.Items.{linked_chunk}
use Rattle.mc_serial_spec.specs.Lines.{decision_outcome, delete_outcome, set_outcome_of, machine_with_item}
use Rattle.mc_serial_spec.specs.Machine.{Machine, all_swept, machine_after_sweep, with_mode}
use Rattle.mc_serial_spec.specs.Mover.{MoverCount, TurnsOfMover, is_went, zero_counts, turns_after_one, with_chunk}
use Rattle.mc_serial_spec.specs.Supply.{machine_after_supply, supply}

-- the machine with the item in this chunk, before a page is asked for; unchanged where there is no chunk
abbrev pub machine_with_placed : Machine → ℕ → ℕ → List ℕ → Option ChunkId → Machine
machine_with_placed m class key words None = m
machine_with_placed m class key words (Some chunk) = machine_with_item m class key words chunk

-- the stages of storing an item: the class's dead chunks are put back; the class has a free chunk, if it can get one; and the item is in
-- the chunk
abbrev pub store_stages : Machine → ℕ → ℕ → List ℕ → List Machine
store_stages m class key words =
    machine_after_sweep m class ∷ machine_after_supply m class ∷ machine_with_placed (machine_after_supply m class) class key words (supply m class) ∷ []

-- a set: nothing is done where the item is too large; else it is stored, and a page is asked for where that is due
abbrev pub set_stages : Machine → Option ℕ → ℕ → List ℕ → List Machine
set_stages m None key words = m ∷ []
set_stages m (Some class) key words = store_stages m class key words ++ (set_outcome_of m (Some class) key words).machine ∷ []

-- a reassign: no page begins to move yet, then it does where it can
abbrev pub reassign_stages : Machine → Option ℕ → ℕ → List Machine
reassign_stages m src dst = m ∷ machine_after_begin m src dst (answer_of m.slabs src dst) ∷ []

-- a window: the dead are put back, then the automover is fed, then its decision is acted on
abbrev pub window_stages : Machine → List Machine
window_stages m = let fed = with_window (all_swept m) in all_swept m ∷ fed ∷ (decision_outcome fed (decision fed)).machine ∷ []

-- the machine after the dead chunks of the moving page's class were put back, before the next chunk is looked at
abbrev pub with_source_swept : Machine → Option Moving → Machine
with_source_swept m None = m
with_source_swept m (Some move) = machine_after_sweep m move.src

-- the stages of at most n looks at chunks: the command may end at each of them
abbrev pub look_stages : ℕ → MoverCount → List Machine
look_stages zero c = []
look_stages (suc count) c =
    with_source_swept c.machine c.machine.slabs.moving ∷ look_stages count (with_chunk c c.machine.slabs.moving)

-- the stages of one turn, once it is begun
abbrev pub turn_stages : Machine → Counts → List Machine
turn_stages m counts = look_stages m.bulk (record { machine = record m { turns = m.turns + 1 }; counts = counts })

-- the stages of n more turns: each turn is about to begin, or ends early
abbrev pub stages_from : ℕ → TurnsOfMover → List Machine
stages_from zero t = t.machine ∷ []
stages_from (suc count) t = let next = turns_after_one t.machine t.counts in
    t.machine ∷ (turn_stages t.machine t.counts ++ (if is_went next.ending then stages_from count next else next.machine ∷ []))

-- the stages of n turns
abbrev pub turns_stages : Machine → ℕ → List Machine
turns_stages m count = stages_from count (record { machine = m; counts = zero_counts; ending = Idle })

-- the stages of a command: at the last of them all is done but the reply
abbrev pub stages : Machine → Command → List Machine
stages m (command.Set worker key words base) = set_stages m (class_of m.table (item_bytes words)) key (counting_words base words)
stages m (command.Get worker key) = m ∷ []
stages m (command.Hold worker key) = m ∷ []
stages m (command.Drop worker key) = m ∷ []
stages m (command.Delete worker key) = (delete_outcome m key (linked_chunk m.items key)).machine ∷ []
stages m (command.Touch worker key) = m ∷ []
stages m (command.Reassign src dst) = reassign_stages m src dst
stages m (command.Automove mode) = record m { slabs = with_mode m.slabs mode } ∷ []
stages m command.Window = window_stages m
stages m (command.Turn turns) = turns_stages m turns
stages m command.Stats = m ∷ []
stages m command.StatsSlabs = all_swept m ∷ []
