-- The lines of a list before its events: its configuration and its hands.
use Rattle.std.specs.Prelude.{ℕ, codes, if◌then◌else◌, List, [], ◌∷◌, Option, Some, None}
use Rattle.std.specs.Str.{bytes_eq}
use Rattle.mc_classes.specs.declared.config.Config.{Config}
use Rattle.mc_script.specs.Words.{◌>>=◌, parsed_number}

-- the four numbers that four words write
unfoldable pub four_of : List ℕ → List ℕ → List ℕ → List ℕ → Option (ℕ × ℕ × ℕ × ℕ)
four_of one two three four = do
  a ← parsed_number one
  b ← parsed_number two
  c ← parsed_number three
  d ← parsed_number four
  Some (a, b, c, d)

-- the four numbers that a list of four words writes
unfoldable pub last_four_of : List (List ℕ) → Option (ℕ × ℕ × ℕ × ℕ)
last_four_of (one ∷ two ∷ three ∷ four ∷ []) = four_of one two three four
last_four_of words = None

-- the configuration that these words write
unfoldable pub written_config : List (List ℕ) → Option Config
written_config (verb ∷ page ∷ limit ∷ first ∷ num ∷ others) =
    if bytes_eq verb (codes "config") then (do
      p ← four_of page limit first num
      d ← last_four_of others
      Some (record { page = p.0; limit = p.1; first = p.2; num = p.3; den = d.0; max = d.1; stripes = d.2; bulk = d.3 }))
    else None
written_config words = None

-- the number of hands that these words write
unfoldable pub written_hands : List (List ℕ) → Option ℕ
written_hands (verb ∷ hands ∷ []) = if bytes_eq verb (codes "hands") then parsed_number hands else None
written_hands words = None
