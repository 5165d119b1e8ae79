use Rattle.std.proofs.Common.{◌≡◌, ◌≤◌, ◌+◌, ◌++◌, length, vec_len, vec_capacity}
use Rattle.mc_stripe.specs.StripeState.{index_stamps}
use Rattle.mc_stripe.proofs.index.push_stamps.Given as goal

-- what was pushed and what is left are all, and there is room for the rest
abbrev pub invariant-loop-key : goal.invariant-loop-key
invariant-loop-key l =
    (l.base.items ++ index_stamps l.key-iterator ≡ l.fn.base.items ++ index_stamps l.index.entries)
    × (vec_len l.base + length l.key-iterator ≤ vec_capacity l.base)
