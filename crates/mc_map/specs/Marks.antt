-- The marks of a script: the lines that ask for a map.
use Rattle.std.specs.Prelude.{ℕ, ◌+◌, Bool, if◌then◌else◌, List, [], ◌∷◌, ◌++◌, codes}
use Rattle.std.specs.Str.{bytes_eq}
use Rattle.mc_script.specs.Script.{is_skipped}
use Rattle.mc_script.specs.Words.{line_words}
use Rattle.mc_map.specs.declared.script.Mark.{Mark}

-- the line asks for a map
abbrev pub is_mark : List ℕ → Bool
is_mark line = bytes_eq line (codes "# map")

-- 1 for a line that is a command, and 0 for one that is skipped
abbrev pub command_count : List ℕ → ℕ
command_count line = if is_skipped (line_words line) then 0 else 1

-- the mark of a line with this number, which has n commands above it, if the line is one
abbrev pub mark_on : List ℕ → ℕ → ℕ → List Mark
mark_on line number done = if is_mark line then record { line = number; done = done } ∷ [] else []

-- the marks of these lines, which have this many lines and this many commands above them
abbrev pub script_marks : ℕ → ℕ → List (List ℕ) → List Mark
script_marks number done [] = []
script_marks number done (line ∷ rest) = mark_on line (number + 1) done ++ script_marks (number + 1) (done + command_count line) rest
