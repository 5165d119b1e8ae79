-- Worked cases of deadlines, which the prover computes.
use Rattle.std.specs.Prelude.{◌≡◌, ℕ, ◌∷◌, []}
use Rattle.mc_expiry.specs.Deadlines.{IsExpired, IsUnexpired, timed_bytes}

-- a deadline of 258 before the value of one byte 7, and no deadline before no byte
abbrev pub WorkedBytes : Type 0
WorkedBytes = (timed_bytes 258 (7 ∷ []) ≡ 2 ∷ 1 ∷ 0 ∷ 0 ∷ 7 ∷ []) × (timed_bytes 0 [] ≡ 0 ∷ 0 ∷ 0 ∷ 0 ∷ [])

-- a deadline of 5 is reached at 5 and isn't at 4; one of 0 isn't at any time
abbrev pub WorkedDeadlines : Type 0
WorkedDeadlines = IsExpired 5 5 × IsUnexpired 5 4 × IsUnexpired 0 0 × ((time : ℕ) → IsExpired 0 time → ⊥)
