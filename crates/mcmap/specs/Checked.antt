-- What is wrong with a script.
use Rattle.std.specs.Prelude.{◌≡◌, ℕ, ◌+◌, ◌||◌, nat_lt, true, if◌then◌else◌, List, [], ◌∷◌, ◌++◌, codes, decimal, flat_map, is_err, Ok}
use Rattle.std.specs.Str.Lines.{lines}
use Rattle.std.specs.Char.{encode_utf8}
use Rattle.mc_script.specs.declared.command.Command.{Command}
use Rattle.mc_script.specs.Script.{script_of}
use Rattle.mcmap.specs.declared.fault.Fault.{Fault}
use Rattle.mcmap.specs.declared.fault.Fault.TheVariants.{WrongLines}

-- the bytes are a script: each line is a command, or is skipped
abbrev pub IsAcceptedScript : List ℕ → Type 0
IsAcceptedScript bytes = (commands : List Command) × (script_of bytes ≡ Ok commands)

-- 1 for a line that is no command and isn't skipped, and 0 for another
abbrev pub wrong_on : List ℕ → ℕ
wrong_on line = if is_err (script_of line) then 1 else 0

-- how many of these lines are no commands and aren't skipped
abbrev pub wrong_count : List (List ℕ) → ℕ
wrong_count [] = 0
wrong_count (line ∷ rest) = wrong_on line + wrong_count rest

-- the bytes are no script, and the fault has the count of their wrong lines
abbrev pub IsRefusalOf : List ℕ → Fault → Type 0
IsRefusalOf bytes fault = (is_err (script_of bytes) ≡ true) × (fault ≡ WrongLines (wrong_count (lines bytes)))

-- the character of a byte, or a question mark where the byte doesn't print
abbrev pub printed_byte : ℕ → ℕ
printed_byte byte = if nat_lt byte 33 || nat_lt 126 byte then 63 else byte

-- the word as it is printed
abbrev pub quoted_text : List ℕ → List ℕ
quoted_text word = flat_map (λ byte. encode_utf8 (printed_byte byte)) word

-- the line of a fault: the number of the script's line, the wrong word, and why it's wrong
unfoldable pub wrong_text : ℕ → List ℕ → List ℕ → List ℕ
wrong_text number word reason = codes "line " ++ (decimal number ++ (codes ": \"" ++ (quoted_text word ++ (codes "\" " ++ (reason ++ codes "\n")))))
