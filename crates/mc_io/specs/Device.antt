-- What a failed write does to the bytes that a writer is known to hold.
use Rattle.std.specs.Prelude.{◌≡◌, ℕ, List, ◌++◌, Option, ⊤, None, Some}

-- known bytes stay at the front, and something may follow them
abbrev pub Extends : Option (List ℕ) → Option (List ℕ) → Type 0
Extends None new = ⊤
Extends (Some xs) None = ⊥
Extends (Some xs) (Some ys) = (more : List ℕ) × (ys ≡ xs ++ more)
