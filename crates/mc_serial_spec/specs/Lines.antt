-- The reply of the plain machine to each command, and the machine after it.
use Rattle.std.specs.Prelude.{◌≡◌, ℕ, ◌*◌, Bool, List, [], ◌∷◌, ◌++◌, length, find, codes, Option, Some, None, Result, Ok, Err, if◌then◌else◌}
use Rattle.std.specs.Option.{is_some, option_and_then, option_map, option_map_or}
use Rattle.mc_classes.specs.Classes.{class_of}
use Rattle.mc_pages.specs.declared.ids.ChunkId.{ChunkId}
use Rattle.mc_pages.specs.declared.moves.Reassign.{Reassign}
use Rattle.mc_pages.specs.declared.moves.Reassign.TheVariants.{Busy, Same, BadClass, NoSpare, NoMemory}
use Rattle.mc_pages.specs.SlabState.{granted_count}
use Rattle.mc_pages.specs.Accounted.{truth}
use Rattle.mc_pages.specs.Changes.{after_pop, after_touch}
use Rattle.mc_pages.specs.Answer.{answer_of}
use Rattle.mc_script.specs.declared.command.Command.{Command}
use Rattle.mc_script.specs.declared.command.Command.TheVariants as command
use Rattle.mc_serial_spec.specs.Item.{Item, item_bytes, new_item, counting_words}
use Rattle.mc_serial_spec.specs.Items.{item_in_chunk, linked_chunk, unlinked_items, with_item, has_key}
use Rattle.mc_serial_spec.specs.Holds.{held_by, is_full, with_hold, without_hold}
use Rattle.mc_watch.specs.declared.decider.Decision.{Decision}
use Rattle.mc_serial_spec.specs.Machine.{Machine, all_swept, with_mode}
use Rattle.mc_serial_spec.specs.Supply.{machine_after_supply, supply, asks_for_page}
use Rattle.mc_serial_spec.specs.Automove.{machine_after_begin, decision, free_counts, class_page_counts, with_asked_page, with_window}
use Rattle.mc_serial_spec.specs.Mover.{TurnsOfMover, after_turns}
use Rattle.mc_watch.specs.Texts.{line, slabs_text, general_text}
use Rattle.mc_serial_spec.specs.Texts.{key_line, spaced_words, words_line, turn_line}

-- a reply, and the machine after it
pub record Outcome : Type 0 where
  pub reply : List ℕ
  pub machine : Machine

-- a reply after which the machine is as before
abbrev pub reply_only : Machine → List ℕ → Outcome
reply_only m reply = record { reply = reply; machine = m }

-- the item comes into this chunk, which is handed out, and its key leads to no other
abbrev pub machine_with_item : Machine → ℕ → ℕ → List ℕ → ChunkId → Machine
machine_with_item m class key words chunk = record m {
  slabs = after_pop m.slabs class;
  items = with_item (unlinked_items m.items key) chunk (new_item key words);
}

-- the item comes into this chunk, if there is one, and a page is asked for where that is due
abbrev pub set_outcome : Machine → ℕ → ℕ → List ℕ → Bool → Option ChunkId → Outcome
set_outcome m class key words asks None = reply_only m (key_line (codes "NO_ROOM") key)
set_outcome m class key words asks (Some chunk) = let done = machine_with_item m class key words chunk in
    record { reply = key_line (codes "STORED") key; machine = if asks then with_asked_page done class else done }

-- a set of an item of this class, or of none where it is too large
abbrev pub set_outcome_of : Machine → Option ℕ → ℕ → List ℕ → Outcome
set_outcome_of m None key words = reply_only m (key_line (codes "TOO_LARGE") key)
set_outcome_of m (Some class) key words = set_outcome (machine_after_supply m class) class key words (asks_for_page m class) (supply m class)

-- the words of the item that was found
abbrev pub get_outcome : Machine → ℕ → Option Item → Outcome
get_outcome m key None = reply_only m (key_line (codes "NOT_FOUND") key)
get_outcome m key (Some item) = reply_only m (words_line (codes "VALUE") key item.words)

-- a worker looks up a key
abbrev pub lookup_outcome : Machine → ℕ → ℕ → Outcome
lookup_outcome m worker key =
    if is_full m.holds worker then reply_only m (key_line (codes "TOO_MANY_REFS") key)
    else get_outcome m key (option_and_then (item_in_chunk m.items) (linked_chunk m.items key))

-- a worker holds the chunk that was found
abbrev pub hold_outcome_at : Machine → ℕ → ℕ → Option ChunkId → Outcome
hold_outcome_at m worker key None = reply_only m (key_line (codes "NOT_FOUND") key)
hold_outcome_at m worker key (Some chunk) = record { reply = key_line (codes "HELD") key; machine = record m { holds = with_hold m.holds worker chunk } }

-- a worker holds the item that the key leads to
abbrev pub hold_outcome : Machine → ℕ → ℕ → Outcome
hold_outcome m worker key =
    if is_full m.holds worker then reply_only m (key_line (codes "TOO_MANY_REFS") key)
    else hold_outcome_at m worker key (linked_chunk m.items key)

-- the words of the item in the chunk, of which the worker's last hold is given back
abbrev pub release_outcome_at : Machine → ℕ → ℕ → ChunkId → Option Item → Outcome
release_outcome_at m worker key chunk None = reply_only m (key_line (codes "NOT_HELD") key)
release_outcome_at m worker key chunk (Some item) = record {
  reply = words_line (codes "DROPPED") key item.words;
  machine = record m { holds = without_hold m.holds worker chunk };
}

-- the worker gives back the hold that was found
abbrev pub release_outcome : Machine → ℕ → ℕ → Option ChunkId → Outcome
release_outcome m worker key None = reply_only m (key_line (codes "NOT_HELD") key)
release_outcome m worker key (Some chunk) = release_outcome_at m worker key chunk (item_in_chunk m.items chunk)

-- the worker's hold of an item of this key that it took last
abbrev pub last_hold : Machine → ℕ → ℕ → Option ChunkId
last_hold m worker key = find (has_key m.items key) (held_by m.holds worker)

-- the key's item is deleted: its key leads to it no more
abbrev pub delete_outcome : Machine → ℕ → Option ChunkId → Outcome
delete_outcome m key None = reply_only m (key_line (codes "NOT_FOUND") key)
delete_outcome m key (Some chunk) = record { reply = key_line (codes "DELETED") key; machine = record m { items = unlinked_items m.items key } }

-- the key's item becomes the youngest of its class
abbrev pub touch_outcome : Machine → ℕ → Option ChunkId → Outcome
touch_outcome m key None = reply_only m (key_line (codes "NOT_FOUND") key)
touch_outcome m key (Some chunk) = record { reply = key_line (codes "TOUCHED") key; machine = record m { slabs = after_touch m.slabs chunk } }

-- the name of a refusal
abbrev pub refusal_name : Reassign → List ℕ
refusal_name Busy = codes "BUSY"
refusal_name Same = codes "SAME"
refusal_name BadClass = codes "BADCLASS"
refusal_name NoSpare = codes "NOSPARE"
refusal_name (NoMemory _) = []

-- what is answered to whoever wants a page moved
abbrev pub answer_name : Result ℕ Reassign → List ℕ
answer_name (Err refusal) = refusal_name refusal
answer_name (Ok source) = codes "OK"

-- a page begins to move, or why it doesn't
abbrev pub reassign_outcome : Machine → Option ℕ → ℕ → Result ℕ Reassign → Outcome
reassign_outcome m src dst answer = record { reply = line (answer_name answer); machine = machine_after_begin m src dst answer }

-- a page begins to move as the automover decided, or why it doesn't
abbrev pub move_outcome : Machine → ℕ → ℕ → Result ℕ Reassign → Outcome
move_outcome m src dst answer = record {
  reply = line (codes "WINDOW" ++ spaced_words (src ∷ dst ∷ []) ++ codes " " ++ answer_name answer);
  machine = machine_after_begin m (Some src) dst answer;
}

-- what a decision does, if there is one: the machine after it, and the reply
abbrev pub decision_outcome : Machine → Option Decision → Outcome
decision_outcome m None = reply_only m (line (codes "WINDOW none"))
decision_outcome m (Some d) = move_outcome m d.src d.dst (answer_of m.slabs (Some d.src) d.dst)

-- the turns are done
abbrev pub after_turn : TurnsOfMover → Outcome
after_turn t = record { reply = turn_line t.ending t.counts; machine = t.machine }

-- the text of the statistics of the classes in this state
abbrev pub slabs_text_of : Machine → List ℕ
slabs_text_of m =
    slabs_text m.table (class_page_counts m.slabs) (free_counts m.slabs) (granted_count m.slabs * m.slabs.page)

-- the text of the general statistics in this state
abbrev pub general_text_of : Machine → List ℕ
general_text_of m =
    general_text (length m.slabs.pool) (truth (is_some m.slabs.moving)) m.slabs.moved m.slabs.rescues m.slabs.evictions_nomem m.slabs.busy

-- the reply to a command and the machine after it; none for turns that pass the limit of a run
abbrev pub serve : Machine → Command → Option Outcome
serve m (command.Set worker key words base) = Some (set_outcome_of m (class_of m.table (item_bytes words)) key (counting_words base words))
serve m (command.Get worker key) = Some (lookup_outcome m worker key)
serve m (command.Hold worker key) = Some (hold_outcome m worker key)
serve m (command.Drop worker key) = Some (release_outcome m worker key (last_hold m worker key))
serve m (command.Delete worker key) = Some (delete_outcome m key (linked_chunk m.items key))
serve m (command.Touch worker key) = Some (touch_outcome m key (linked_chunk m.items key))
serve m (command.Reassign src dst) = Some (reassign_outcome m src dst (answer_of m.slabs src dst))
serve m (command.Automove mode) = Some (record { reply = line (codes "OK"); machine = record m { slabs = with_mode m.slabs mode } })
serve m command.Window = let fed = with_window (all_swept m) in Some (decision_outcome fed (decision fed))
serve m (command.Turn turns) = option_map after_turn (after_turns m turns)
serve m command.Stats = Some (reply_only m (general_text_of m))
serve m command.StatsSlabs = let swept = all_swept m in Some (reply_only swept (slabs_text_of swept))

-- the replies to these commands, one after another, until the run is stopped
abbrev pub replies_to : Machine → List Command → List ℕ
replies_to m [] = []
replies_to m (command ∷ commands) = option_map_or (λ served. served.reply ++ replies_to served.machine commands) (serve m command) []

-- the machine after these commands, or none where the run has no turns left for one of them
abbrev pub after_all : Machine → List Command → Option Machine
after_all m [] = Some m
after_all m (command ∷ commands) = option_and_then (λ served. after_all served.machine commands) (serve m command)

-- the run has the turns for all of these commands
abbrev pub is_done : Machine → List Command → Bool
is_done m commands = is_some (after_all m commands)

-- the command was done: the text grew by its reply, and the machine is the one after it
pub record IsServed (m : Machine) (command : Command) (old new : List ℕ) (machine : Machine) : Type 0 where
  pub served : Outcome
  pub is : serve m command ≡ Some served
  pub reply : new ≡ old ++ served.reply
  pub after : machine ≡ served.machine
