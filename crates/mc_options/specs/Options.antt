-- What the words of a command line ask for. A word's bytes are those of its text.
use Rattle.std.specs.Prelude.{◌≡◌, ◌≢◌, ◌⊎◌, ℕ, ◌==◌, ◌&&◌, ◌||◌, ◌^◌, ◌<◌, ◌≤◌, ◌++◌, Bool, false, List, [], ◌∷◌, codes, length, nat_le, slice_get, if◌then◌else◌, Option, Some, None}
use Rattle.std.specs.List.{before_first, after_first}
use Rattle.std.specs.Str.{all_ascii_digits, bytes_eq}
use Rattle.std.specs.Str.Parse.{IsNumeral, digits_value, without_leading_plus}
use Rattle.mc_classes.specs.declared.config.Config.{Config}
use Rattle.mc_options.specs.declared.settings.Options.{Options}

-- ---- the value of an option

-- what follows this front in a text; none where the text doesn't begin with the front
abbrev pub text_behind : List ℕ → List ℕ → Option (List ℕ)
text_behind [] text = Some text
text_behind (x ∷ front) [] = None
text_behind (x ∷ front) (y ∷ text) = if x == y then text_behind front text else None

-- the value of `--name` by what follows the name in its word. Nothing: the next word. `=` (61): what follows it. Anything else: the value
-- that later words give
abbrev pub value_from : Option (List ℕ) → List (List ℕ) → Option (List ℕ) → Option (List ℕ)
value_from (Some []) rest later = slice_get rest 0
value_from (Some (byte ∷ value)) rest later = if byte == 61 then Some value else later
value_from None rest later = later

-- the value of an option: the word behind the first `--name`, or what follows `--name=`
abbrev pub option_value : List ℕ → List (List ℕ) → Option (List ℕ)
option_value name [] = None
option_value name (word ∷ rest) = value_from (text_behind (codes "--" ++ name) word) rest (option_value name rest)

-- ---- the flag of the threads

-- one of the words is the flag
abbrev pub has_threads : List (List ℕ) → Bool
has_threads [] = false
has_threads (word ∷ rest) = bytes_eq word (codes "--threads") || has_threads rest

-- ---- numbers

-- decimal digits of a number below 2^64, perhaps behind a `+`
abbrev pub IsNumber : List ℕ → Type 0
IsNumber text = IsNumeral 10 (without_leading_plus text) × (digits_value 10 (without_leading_plus text) < 2 ^ 64)

-- a mode of the automover: a number that is at most 2
abbrev pub IsMode : List ℕ → Type 0
IsMode text = IsNumber text × (digits_value 10 (without_leading_plus text) ≤ 2)

-- the number that a value writes; where there is no value, the default
abbrev pub number_or : ℕ → Option (List ℕ) → ℕ
number_or default None = default
number_or default (Some text) = digits_value 10 (without_leading_plus text)

-- 1 to 5 decimal digits
abbrev pub is_short_number : List ℕ → Bool
is_short_number digits = nat_le 1 (length digits) && nat_le (length digits) 5 && all_ascii_digits digits

-- the number that these digits write, if it is short
abbrev pub short_number_of : List ℕ → Option ℕ
short_number_of digits = if is_short_number digits then Some (digits_value 10 digits) else None

-- a slash, `/`
abbrev pub is_slash : ℕ → Bool
is_slash byte = byte == 47

-- two short numbers with a slash between them, and 0 and 0 for any other text
abbrev pub factor_of : List ℕ → ℕ × ℕ
factor_of text = if is_short_number (before_first is_slash text) && is_short_number (after_first is_slash text)
    then (digits_value 10 (before_first is_slash text), digits_value 10 (after_first is_slash text)) else (0, 0)

-- the factor of a value; 2 and 1 where there is no value
abbrev pub factor_or : Option (List ℕ) → ℕ × ℕ
factor_or None = (2, 1)
factor_or (Some text) = factor_of text

-- ---- which words are taken

-- an option's name and its value, as one word or as two, or the flag of the threads
pub data Choice : Type 0 where
  joined : List ℕ → List ℕ → Choice
  apart : List ℕ → List ℕ → Choice
  flag : Choice

-- `--name=value`, or `--name` and `value`, or `--threads`
abbrev pub written_choice : Choice → List (List ℕ)
written_choice (joined name value) = (codes "--" ++ name ++ (61 ∷ value)) ∷ []
written_choice (apart name value) = (codes "--" ++ name) ∷ value ∷ []
written_choice flag = codes "--threads" ∷ []

-- the name behind the hyphens
abbrev pub option_name : Choice → List ℕ
option_name (joined name value) = name
option_name (apart name value) = name
option_name flag = codes "threads"

-- the words of many choices
abbrev pub choice_words : List Choice → List (List ℕ)
choice_words [] = []
choice_words (choice ∷ rest) = written_choice choice ++ choice_words rest

-- the names of the options whose value is a number
abbrev pub IsNumberName : List ℕ → Type 0
IsNumberName name = (name ≡ codes "page") ⊎ ((name ≡ codes "limit") ⊎ ((name ≡ codes "first") ⊎ ((name ≡ codes "max") ⊎ ((name ≡ codes "stripes") ⊎ (name ≡ codes "bulk")))))

-- the option takes the value: the factor takes any, and the automover a mode
abbrev pub AllowsValue : List ℕ → List ℕ → Type 0
AllowsValue name value = (name ≡ codes "factor") ⊎ (((name ≡ codes "automove") × IsMode value) ⊎ (IsNumberName name × IsNumber value))

-- a hyphen (45) and more behind it
abbrev pub is_hyphenated : List ℕ → Bool
is_hyphenated [] = false
is_hyphenated (byte ∷ []) = false
is_hyphenated (byte ∷ more ∷ rest) = byte == 45

-- the option takes the value; a value in a word of its own doesn't look like an option; the flag has no value
abbrev pub IsTaken : Choice → Type 0
IsTaken (joined name value) = AllowsValue name value
IsTaken (apart name value) = AllowsValue name value × (is_hyphenated value ≡ false)
IsTaken flag = Unit {0}

-- none of the choices has the name
abbrev pub IsNewTo : List ℕ → List Choice → Type 0
IsNewTo name [] = Unit {0}
IsNewTo name (choice ∷ rest) = (option_name choice ≢ name) × IsNewTo name rest

-- each is taken, and none is named twice
abbrev pub AreTaken : List Choice → Type 0
AreTaken [] = Unit {0}
AreTaken (choice ∷ rest) = IsTaken choice × IsNewTo (option_name choice) rest × AreTaken rest

-- the words are options with values that they take, and perhaps the flag, none named twice
abbrev pub IsCommandLine : List (List ℕ) → Type 0
IsCommandLine words = (choices : List Choice) × (words ≡ choice_words choices) × AreTaken choices

-- ---- the options

-- the configuration that the words ask for
abbrev pub chosen_config : List (List ℕ) → Config
chosen_config words = record {
  page = number_or 1024 (option_value (codes "page") words);
  limit = number_or 4096 (option_value (codes "limit") words);
  first = number_or 48 (option_value (codes "first") words);
  num = (factor_or (option_value (codes "factor") words)).0;
  den = (factor_or (option_value (codes "factor") words)).1;
  max = number_or 512 (option_value (codes "max") words);
  stripes = number_or 4 (option_value (codes "stripes") words);
  bulk = number_or 64 (option_value (codes "bulk") words);
}

-- what the words behind the program's name ask for
abbrev pub options_of : List (List ℕ) → Options
options_of words = record {
  run = record { config = chosen_config words; automove = number_or 0 (option_value (codes "automove") words) };
  threads = has_threads words;
}
