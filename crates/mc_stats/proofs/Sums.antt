-- What the numbers of a sum of counts are.
use Rattle.std.proofs.Common.{◌≡◌, ◌∙◌, ◌+◌, ◌-◌, ◌^◌, ℕ, List, [], ◌∷◌, ap, arith}
use Rattle.std.specs.Prelude.{min}
use Rattle.std.specs.List.{fold}
use Rattle.mc_stats.specs.Counts.{call_sum, counts_sum}
use Rattle.mc_stats.specs.declared.counts.Counts.{Counts}

-- a sum that stays at 2^64 - 1, with one number more
capped_more : (n x : ℕ) → min (min n (2 ^ 64 - 1) + x) (2 ^ 64 - 1) ≡ min (n + x) (2 ^ 64 - 1)
capped_more n x = omega arith

-- a number behind more counts, where it was the sum of those before
pub number_of_sum : (number : Counts → ℕ) → ((a b : Counts) → number (counts_sum a b) ≡ call_sum (number a) (number b)) → (all : List Counts) (start : Counts)
    (n : ℕ) → number start ≡ min n (2 ^ 64 - 1) → number (fold counts_sum start all) ≡ min (fold (λ a x. a + number x) n all) (2 ^ 64 - 1)
number_of_sum number adds [] start n is = is
number_of_sum number adds (x ∷ all) start n is =
    number_of_sum number adds all (counts_sum start x) (n + number x)
    (adds start x ∙ ap (λ (k : ℕ). min (k + number x) (2 ^ 64 - 1)) is ∙ capped_more n (number x))
