-- What becomes of a value that is changed.
use Rattle.std.specs.Prelude.{ℕ, ◌+◌, ◌-◌, ◌%◌, ◌^◌, ◌++◌, List, Option, Some, decimal}
use Rattle.std.specs.Option.{option_map}
use Rattle.mc_script.specs.Words.{parsed_number}
use Rattle.mc_update.specs.declared.change.Change.{Change}
use Rattle.mc_update.specs.declared.change.Change.TheVariants.{Increment, Decrement, Append, Prepend}

-- the number behind n, which is 0 again behind 2^64 - 1
abbrev pub number_after : ℕ → ℕ → ℕ
number_after by n = (n + by) % 2 ^ 64

-- the number before n, or 0
abbrev pub number_before : ℕ → ℕ → ℕ
number_before by n = n - by

-- the digits of a counter whose number becomes another; none where the value isn't a number of 1 to 20 digits below 2^64
abbrev pub digits_after : (ℕ → ℕ) → List ℕ → Option (List ℕ)
digits_after next old = option_map (λ n. decimal (next n)) (parsed_number old)

-- what becomes of a value by a change; none where it counts a value that isn't a number
abbrev pub changed_by : Change → List ℕ → Option (List ℕ)
changed_by (Increment by) old = digits_after (number_after by) old
changed_by (Decrement by) old = digits_after (number_before by) old
changed_by (Append more) old = Some (old ++ more.now)
changed_by (Prepend more) old = Some (more.now ++ old)
