-- Classes, which are numbered from 1, by their places, which are counted from 0.
use Rattle.std.proofs.Common.{◌≡◌, ℕ, ◌+◌, Option, Some, None, option_map, ap}
use Rattle.std.specs.Option.{MatchOption, IsSomeAnd}

-- the class at the place, if there is one
pub class_at_place : (P : ℕ → ℕ → Type 0) (place class : Option ℕ) → ((x y : ℕ) → P x y → y ≡ x + 1)
    → MatchOption place (class ≡ None) (λ x. IsSomeAnd class (P x)) → class ≡ option_map (λ place. place + 1) place
class_at_place P None class next h = h
class_at_place P (Some x) None next h = absurd h
class_at_place P (Some x) (Some y) next h = ap Some (next x y h)
