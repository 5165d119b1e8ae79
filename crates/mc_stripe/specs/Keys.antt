-- The keys of an index, as they are put into a list.
use Rattle.std.specs.Prelude.{◌≡◌, ℕ, nat_eq, if◌then◌else◌, List, [], ◌∷◌, ◌++◌, Option, Some}
use Rattle.std.specs.Option.{option_eq}
use Rattle.std.specs.List.Sorted.{IsPermutation}
use Rattle.std.specs.Map.{keys_of}
use Rattle.mc_stripe.specs.StripeState.{Index}

-- behind the old keys come those of the index, each once, in some order
pub record AddsKeys (index : Index) (old new : List ℕ) : Type 0 where
  -- the keys that come behind the old ones
  pub added : List ℕ
  pub behind : new ≡ old ++ added
  -- these are the keys of the index, in some order. The index is by rising key, so no key is in it twice
  pub each : IsPermutation (keys_of index) added

-- these keys but this one, if there is one
abbrev pub keys_but : Option ℕ → List ℕ → List ℕ
keys_but aside [] = []
keys_but aside (key ∷ keys) = if option_eq nat_eq aside (Some key) then keys_but aside keys else key ∷ keys_but aside keys
