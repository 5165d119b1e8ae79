-- The line that a command is written as.
use Rattle.std.specs.Prelude.{ℕ, List, [], ◌∷◌, ◌++◌, codes, Option, Some, None}
use Rattle.std.specs.Fmt.{decimal}
use Rattle.std.specs.List.{join_with_byte}
use Rattle.mc_script.specs.declared.command.Command.{Command}
use Rattle.mc_script.specs.declared.command.Command.TheVariants.{Set, Delete, Get, Hold, Drop, Touch, Reassign, Automove, Window, Turn, Stats, StatsSlabs}
use Rattle.mc_script.specs.Words.{space}

-- the word of a source
abbrev pub source_word : Option ℕ → List ℕ
source_word None = codes "-1"
source_word (Some class) = decimal class

-- the words of a command
abbrev pub command_words : Command → List (List ℕ)
command_words (Set worker key words base) = decimal worker ∷ codes "set" ∷ decimal key ∷ decimal words ∷ decimal base ∷ []
command_words (Delete worker key) = decimal worker ∷ codes "del" ∷ decimal key ∷ []
command_words (Get worker key) = decimal worker ∷ codes "get" ∷ decimal key ∷ []
command_words (Hold worker key) = decimal worker ∷ codes "hold" ∷ decimal key ∷ []
command_words (Drop worker key) = decimal worker ∷ codes "drop" ∷ decimal key ∷ []
command_words (Touch worker key) = decimal worker ∷ codes "touch" ∷ decimal key ∷ []
command_words (Reassign src dst) = codes "reassign" ∷ source_word src ∷ decimal dst ∷ []
command_words (Automove mode) = codes "automove" ∷ decimal mode ∷ []
command_words Window = codes "window" ∷ []
command_words (Turn turns) = codes "turn" ∷ decimal turns ∷ []
command_words Stats = codes "stats" ∷ []
command_words StatsSlabs = codes "stats" ∷ codes "slabs" ∷ []

-- the line of a command: its words with one space between them, and LF
abbrev pub text_of : Command → List ℕ
text_of command = join_with_byte space (command_words command) ++ 10 ∷ []
