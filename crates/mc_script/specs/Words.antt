-- The words of a line, and the numbers among them.
use Rattle.std.specs.Prelude.{ℕ, ◌^◌, ◌==◌, Bool, not, ◌&&◌, nat_le, nat_lt, if◌then◌else◌, List, length, filter, Option, Some, None}
use Rattle.std.specs.List.{slice_split}
use Rattle.std.specs.Option.{option_and_then}
use Rattle.std.specs.Str.{all_ascii_digits}
use Rattle.std.specs.Str.Parse.{digits_value}

infixl 10 ◌>>=◌
-- what the function gives for the value that is there, and none where there is none, as a `do` needs
abbrev pub ◌>>=◌ : {A B : Type 0} → Option A → (A → Option B) → Option B
found >>= next = option_and_then next found

-- the only byte that separates words
abbrev pub space : ℕ
space = 32

-- the words of a line: what is between spaces, where that isn't empty
abbrev pub line_words : List ℕ → List (List ℕ)
line_words line = filter (λ word. not (length word == 0)) (slice_split (λ byte. byte == space) line)

-- 1 to 20 decimal digits of a number below 2^64; leading zeros are allowed
abbrev pub is_number : List ℕ → Bool
is_number word = nat_le 1 (length word) && nat_le (length word) 20 && all_ascii_digits word && nat_lt (digits_value 10 word) (2 ^ 64)

-- the number that a word writes, if it writes one
abbrev pub parsed_number : List ℕ → Option ℕ
parsed_number word = if is_number word then Some (digits_value 10 word) else None

-- the number that a word writes, if it is from low to high
abbrev pub number_between : ℕ → ℕ → List ℕ → Option ℕ
number_between low high word = do
  number ← parsed_number word
  if nat_le low number && nat_le number high then Some number else None
