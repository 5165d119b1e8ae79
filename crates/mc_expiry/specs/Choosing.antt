-- What a kind of store chooses, by what a look found.
use Rattle.std.specs.Prelude.{◌≡◌, ℕ, List, Option, None, Some}
use Rattle.mc_expiry.specs.Deadlines.{timed_bytes}
use Rattle.mc_expiry.specs.Looking.{FoundUnexpired}
use Rattle.mc_expiry.specs.declared.kinds.StoreKind.{StoreKind}
use Rattle.mc_expiry.specs.declared.kinds.StoreKind.TheVariants.{Add, Replace, Touch}

-- the value that is stored where the key has this unexpired value, or none; none where nothing is stored
abbrev pub value_to_store : StoreKind → Option (List ℕ) → Option (List ℕ)
value_to_store (Add value) None = Some value.now
value_to_store (Add value) (Some old) = None
value_to_store (Replace value) None = None
value_to_store (Replace value) (Some old) = Some value.now
value_to_store Touch unexpired = unexpired

-- behind a look that found these bytes, if it found a version, this value is stored
pub record ChoosesValue (kind : StoreKind) (time : ℕ) (found : Option ℕ) (stored value : List ℕ) : Type 0 where
  pub unexpired : Option (List ℕ)
  pub finds : FoundUnexpired time found stored unexpired
  pub chooses : value_to_store kind unexpired ≡ Some value

-- behind such a look nothing is stored
pub record ChoosesNone (kind : StoreKind) (time : ℕ) (found : Option ℕ) (stored : List ℕ) : Type 0 where
  pub unexpired : Option (List ℕ)
  pub finds : FoundUnexpired time found stored unexpired
  pub chooses : value_to_store kind unexpired ≡ None

-- the bytes are those of the value that is stored behind such a look, with this deadline
abbrev pub PutsChosen : StoreKind → ℕ → ℕ → Option ℕ → List ℕ → List ℕ → Type 0
PutsChosen kind time deadline found stored bytes = (value : List ℕ) × ChoosesValue kind time found stored value × (bytes ≡ timed_bytes deadline value)
