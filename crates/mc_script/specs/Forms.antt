-- The forms of a command.
use Rattle.std.specs.Prelude.{ℕ, ◌&&◌, codes, if◌then◌else◌, List, [], ◌∷◌, Option, Some, None}
use Rattle.mc_classes.specs.Limits.{most_workers}
use Rattle.std.specs.Option.{option_or}
use Rattle.std.specs.Str.{bytes_eq}
use Rattle.mc_script.specs.declared.command.Command.{Command}
use Rattle.mc_script.specs.declared.command.Command.TheVariants.{Set, Delete, Get, Hold, Drop, Touch, Reassign, Automove, Window, Turn, Stats, StatsSlabs}
use Rattle.mc_script.specs.Words.{◌>>=◌, parsed_number, number_between}

-- a worker's number is from 1 to `most_workers`
abbrev pub parsed_worker : List ℕ → Option ℕ
parsed_worker word = number_between 1 most_workers word

-- `<worker> set <key> <n> <base>`
unfoldable pub set_of : List (List ℕ) → Option Command
set_of (worker ∷ verb ∷ key ∷ words ∷ base ∷ []) =
    if bytes_eq verb (codes "set") then (do
      w ← parsed_worker worker
      k ← parsed_number key
      n ← number_between 0 4096 words
      b ← parsed_number base
      Some (Set w k n b))
    else None
set_of words = None

-- what a verb asks for by a worker on a key
unfoldable pub key_command_of : List ℕ → ℕ → ℕ → Option Command
key_command_of verb worker key =
    if bytes_eq verb (codes "del") then Some (Delete worker key)
    else if bytes_eq verb (codes "get") then Some (Get worker key)
    else if bytes_eq verb (codes "hold") then Some (Hold worker key)
    else if bytes_eq verb (codes "drop") then Some (Drop worker key)
    else if bytes_eq verb (codes "touch") then Some (Touch worker key)
    else None

-- `<worker> <verb> <key>`
unfoldable pub on_key_of : List (List ℕ) → Option Command
on_key_of (worker ∷ verb ∷ key ∷ []) = do
  w ← parsed_worker worker
  k ← parsed_number key
  key_command_of verb w k
on_key_of words = None

-- a source is `-1`, which is none, or a number
abbrev pub parsed_source : List ℕ → Option (Option ℕ)
parsed_source word = if bytes_eq word (codes "-1") then Some None else (do
  class ← parsed_number word
  Some (Some class))

-- `reassign <src> <dst>`
unfoldable pub reassign_of : List (List ℕ) → Option Command
reassign_of (verb ∷ src ∷ dst ∷ []) =
    if bytes_eq verb (codes "reassign") then (do
      s ← parsed_source src
      d ← parsed_number dst
      Some (Reassign s d))
    else None
reassign_of words = None

-- `automove <m>` or `turn <n>`
unfoldable pub with_number_of : List (List ℕ) → Option Command
with_number_of (verb ∷ number ∷ []) =
    if bytes_eq verb (codes "automove") then (do
      m ← number_between 0 2 number
      Some (Automove m))
    else if bytes_eq verb (codes "turn") then (do
      n ← number_between 1 1000000 number
      Some (Turn n))
    else None
with_number_of words = None

-- `window`, `stats` or `stats slabs`
unfoldable pub bare_of : List (List ℕ) → Option Command
bare_of (verb ∷ []) =
    if bytes_eq verb (codes "window") then Some Window
    else if bytes_eq verb (codes "stats") then Some Stats
    else None
bare_of (verb ∷ what ∷ []) = if bytes_eq verb (codes "stats") && bytes_eq what (codes "slabs") then Some StatsSlabs else None
bare_of words = None

infixr 20 ◌or◌
-- the command of the one form, or else that of the other; none where neither form gives one
abbrev pub ◌or◌ : Option Command → Option Command → Option Command
one or other = option_or one other

-- the command that these words write, in the one form that they have
unfoldable pub command_of : List (List ℕ) → Option Command
command_of words = set_of words or on_key_of words or reassign_of words or with_number_of words or bare_of words
