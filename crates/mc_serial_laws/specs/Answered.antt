-- Commands with the replies to them, and what these alone show: the words stored last, and the words held.
use Rattle.std.specs.Prelude.{ℕ, ◌==◌, not, ◌&&◌, if◌then◌else◌, List, [], ◌∷◌, codes, Option, Some, None}
use Rattle.std.specs.Option.{option_map_or}
use Rattle.std.specs.Str.{bytes_eq}
use Rattle.mc_script.specs.declared.command.Command.{Command}
use Rattle.mc_script.specs.declared.command.Command.TheVariants.{Set, Delete, Hold, Drop}
use Rattle.mc_serial_spec.specs.Item.{counting_words}
use Rattle.mc_serial_spec.specs.Machine.{Machine}
use Rattle.mc_serial_spec.specs.Lines.{serve}
use Rattle.mc_serial_spec.specs.Texts.{key_line}

-- a command, and the reply to it
pub record AnsweredCommand : Type 0 where
  pub command : Command
  pub reply : List ℕ

-- these commands with their replies, behind those that were answered before; the last is first in the list
abbrev pub answers : Machine → List Command → List AnsweredCommand → List AnsweredCommand
answers m [] before = before
answers m (command ∷ commands) before =
    option_map_or (λ served. answers served.machine commands (record { command = command; reply = served.reply } ∷ before)) (serve m command) before

-- the words of a key after a command and its reply: a stored set brings new ones, and a delete that found the key none
abbrev pub words_after : ℕ → Command → List ℕ → Option (List ℕ) → Option (List ℕ)
words_after key (Set worker own count base) reply words =
    if own == key && bytes_eq reply (key_line (codes "STORED") key) then Some (counting_words base count) else words
words_after key (Delete worker own) reply words =
    if own == key && bytes_eq reply (key_line (codes "DELETED") key) then None else words
words_after key command reply words = words

-- the words of the last stored set of a key, with no delete of the key since
abbrev pub last_words : ℕ → List AnsweredCommand → Option (List ℕ)
last_words key [] = None
last_words key (answered ∷ before) = words_after key answered.command answered.reply (last_words key before)

-- a hold: its key, and the words of the key when it was taken
pub record HeldWords : Type 0 where
  pub key : ℕ
  pub words : List ℕ

-- the holds with one more, of a key with these words, if the key has any
abbrev pub with_held : ℕ → Option (List ℕ) → List HeldWords → List HeldWords
with_held key None held = held
with_held key (Some words) held = record { key = key; words = words } ∷ held

-- the holds without the first of this key
abbrev pub without_held : ℕ → List HeldWords → List HeldWords
without_held key [] = []
without_held key (first ∷ held) = if first.key == key then held else first ∷ without_held key held

-- a worker's holds after a command and its reply, where the keys have these words. A hold that found its key adds one at the front. A drop
-- that wasn't refused removes the first of its key
abbrev pub held_after : ℕ → Command → List ℕ → (ℕ → Option (List ℕ)) → List HeldWords → List HeldWords
held_after worker (Hold own key) reply words held =
    if own == worker && bytes_eq reply (key_line (codes "HELD") key) then with_held key (words key) held else held
held_after worker (Drop own key) reply words held =
    if own == worker && not (bytes_eq reply (key_line (codes "NOT_HELD") key)) then without_held key held else held
held_after worker command reply words held = held

-- what a worker holds, the hold that it took last first
abbrev pub held_words : ℕ → List AnsweredCommand → List HeldWords
held_words worker [] = []
held_words worker (answered ∷ before) =
    held_after worker answered.command answered.reply (λ key. last_words key before) (held_words worker before)
