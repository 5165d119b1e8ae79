-- Deadlines, and the bytes of a value that has one.
use Rattle.std.specs.Prelude.{◌≡◌, ◌⊎◌, ◌≤◌, ◌<◌, ◌^◌, ℕ, List, ◌++◌, length}
use Rattle.std.specs.Int.{w32, to_le_bytes}

-- the bytes that are stored of a value with a deadline: four bytes of the deadline, the lowest first, and then the value
abbrev pub timed_bytes : ℕ → List ℕ → List ℕ
timed_bytes deadline value = to_le_bytes w32 deadline ++ value

-- the deadline is reached at this time: it isn't 0, which is never, and the time isn't before it
abbrev pub IsExpired : ℕ → ℕ → Type 0
IsExpired deadline time = (1 ≤ deadline) × (deadline ≤ time)

-- the deadline isn't reached at this time: it is never, or later
abbrev pub IsUnexpired : ℕ → ℕ → Type 0
IsUnexpired deadline time = (deadline ≡ 0) ⊎ (time < deadline)

-- the stored bytes are those of this value and of a deadline that isn't reached at this time
pub record HasUnexpired (time : ℕ) (stored value : List ℕ) : Type 0 where
  pub deadline : ℕ
  pub fits : deadline < 2 ^ 32
  pub is_timed : stored ≡ timed_bytes deadline value
  pub unexpired : IsUnexpired deadline time

-- the stored bytes are those of a value and of a deadline that is reached at this time
pub record HasExpired (time : ℕ) (stored : List ℕ) : Type 0 where
  pub deadline : ℕ
  pub value : List ℕ
  pub fits : deadline < 2 ^ 32
  pub is_timed : stored ≡ timed_bytes deadline value
  pub expired : IsExpired deadline time

-- the stored bytes have no unexpired value: they are too few for a deadline, or theirs is reached at this time
abbrev pub LacksUnexpired : ℕ → List ℕ → Type 0
LacksUnexpired time stored = (length stored < 4) ⊎ HasExpired time stored

-- *stored bytes are those of one deadline and one value*
abbrev pub DeadlinesAreUnique : Type 0
DeadlinesAreUnique =
    (deadline other : ℕ) (value another : List ℕ) → deadline < 2 ^ 32 → other < 2 ^ 32 → timed_bytes deadline value ≡ timed_bytes other another → (deadline ≡ other) × (value ≡ another)

-- *a deadline is reached or it isn't, and never both*
abbrev pub EitherIsExpired : Type 0
EitherIsExpired = (deadline time : ℕ) → (IsExpired deadline time ⊎ IsUnexpired deadline time) × (IsExpired deadline time → IsUnexpired deadline time → ⊥)

-- *stored bytes that have no unexpired value by one reading have none by the other*
abbrev pub LackersHaveNone : Type 0
LackersHaveNone = (time : ℕ) (stored value : List ℕ) → LacksUnexpired time stored → HasUnexpired time stored value → ⊥
