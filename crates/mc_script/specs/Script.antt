-- Which bytes are a script, and which commands it gives.
use Rattle.std.specs.Prelude.{ℕ, ◌+◌, ◌==◌, Bool, true, if◌then◌else◌, List, [], ◌∷◌, slice_index, Option, Some, None, Result, Ok, Err}
use Rattle.std.specs.Str.Lines.{lines}
use Rattle.mc_script.specs.declared.command.Command.{Command}
use Rattle.mc_script.specs.Forms.{command_of}
use Rattle.mc_script.specs.Words.{line_words}

-- the first byte of a comment, `#`
abbrev pub number_sign : ℕ
number_sign = 35

-- a line is skipped if it has no words, or its first word begins with `#`
abbrev pub is_skipped : List (List ℕ) → Bool
is_skipped [] = true
is_skipped (word ∷ words) = slice_index word 0 == number_sign

-- a line's command and those after it; a line with the number n that writes no command is the lowest refused one
abbrev pub commands_with : ℕ → Option Command → Result (List Command) ℕ → Result (List Command) ℕ
commands_with n None rest = Err n
commands_with n (Some command) (Ok commands) = Ok (command ∷ commands)
commands_with n (Some command) (Err refused) = Err refused

-- the commands of lines that are numbered from n, or the number of the lowest refused one
abbrev pub commands_of : ℕ → List (List ℕ) → Result (List Command) ℕ
commands_of n [] = Ok []
commands_of n (line ∷ rest) =
    if is_skipped (line_words line) then commands_of (n + 1) rest else commands_with n (command_of (line_words line)) (commands_of (n + 1) rest)

-- a script: its lines end with LF or CR LF, the last perhaps with the script, and are numbered from 1
unfoldable pub script_of : List ℕ → Result (List Command) ℕ
script_of bytes = commands_of 1 (lines bytes)
