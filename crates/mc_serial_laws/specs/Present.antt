-- What a key is answered: whoever asks for its item finds the same, and a worker with the most holds is refused.
use Rattle.std.specs.Prelude.{◌≡◌, ℕ, ◌==◌, ◌⊎◌, if◌then◌else◌, List, [], length, codes, Option, Some, None}
use Rattle.mc_classes.specs.Classes.{Classes}
use Rattle.mc_classes.specs.Limits.{most_refs}
use Rattle.mc_script.specs.declared.command.Command.{Command}
use Rattle.mc_script.specs.declared.command.Command.TheVariants.{Get, Hold, Touch, Delete}
use Rattle.mc_serial_spec.specs.Machine.{Machine, fresh_machine}
use Rattle.mc_serial_spec.specs.Lines.{Outcome, serve, after_all}
use Rattle.mc_serial_spec.specs.Texts.{key_line, words_line}
use Rattle.mc_serial_laws.specs.Answered.{AnsweredCommand, answers, last_words, held_words}

-- the line with a key's words, or NOT_FOUND where it has no item
abbrev pub words_or_none : ℕ → Option (List ℕ) → List ℕ
words_or_none key None = key_line (codes "NOT_FOUND") key
words_or_none key (Some words) = words_line (codes "VALUE") key words

-- the line with this answer where the key has an item, or else with NOT_FOUND
abbrev pub found_or_none : List ℕ → ℕ → Option (List ℕ) → List ℕ
found_or_none answer key None = key_line (codes "NOT_FOUND") key
found_or_none answer key (Some words) = key_line answer key

-- TOO_MANY_REFS to a worker with the most holds, and else this reply
abbrev pub unless_full : ℕ → ℕ → List ℕ → List ℕ
unless_full holds key reply = if holds == most_refs then key_line (codes "TOO_MANY_REFS") key else reply

-- the reply to a get of a key by a worker with n holds, where the key has these words, or no item
abbrev pub reply_to_get : ℕ → ℕ → Option (List ℕ) → List ℕ
reply_to_get holds key item = unless_full holds key (words_or_none key item)

-- the reply to a hold of a key by a worker with n holds, where the key has these words, or no item
abbrev pub reply_to_hold : ℕ → ℕ → Option (List ℕ) → List ℕ
reply_to_hold holds key item = unless_full holds key (found_or_none (codes "HELD") key item)

-- how many holds a worker has by the answers
abbrev pub holds_by_answers : ℕ → List AnsweredCommand → ℕ
holds_by_answers worker told = length (held_words worker told)

-- get, hold, touch and delete, asked now, find these words for the key, or find no item
pub record KeyHasItem (m : Machine) (told : List AnsweredCommand) (key : ℕ) (item : Option (List ℕ)) : Type 0 where
  pub get : (worker : ℕ) (served : Outcome) → serve m (Get worker key) ≡ Some served → served.reply ≡ reply_to_get (holds_by_answers worker told) key item
  pub hold : (worker : ℕ) (served : Outcome) → serve m (Hold worker key) ≡ Some served → served.reply ≡ reply_to_hold (holds_by_answers worker told) key item
  pub touch : (worker : ℕ) (served : Outcome) → serve m (Touch worker key) ≡ Some served → served.reply ≡ found_or_none (codes "TOUCHED") key item
  pub delete : (worker : ℕ) (served : Outcome) → serve m (Delete worker key) ≡ Some served → served.reply ≡ found_or_none (codes "DELETED") key item

-- after these commands each key has no item, or its last words; and get, hold, touch and delete agree which of the two
abbrev pub ShowsOneItem : Classes → ℕ → ℕ → List Command → Type 0
ShowsOneItem table bulk mode commands = (m : Machine) (key : ℕ) → after_all (fresh_machine table bulk mode) commands ≡ Some m
    → let told = answers (fresh_machine table bulk mode) commands [] in
    (item : Option (List ℕ)) × ((item ≡ None) ⊎ (item ≡ last_words key told)) × KeyHasItem m told key item
