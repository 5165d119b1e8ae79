use Rattle.std.proofs.Common.{◌≡◌, ◌≤◌, ◌+◌, ◌++◌, length, vec_len, vec_capacity}
use Rattle.std.specs.Map.{keys_of}
use Rattle.mc_stripe.specs.Keys.{keys_but}
use Rattle.mc_stripe.proofs.index.push_keys.Given as goal

-- what was pushed and what is left are all, and there is room for the rest
abbrev pub invariant-loop-key : goal.invariant-loop-key
invariant-loop-key l =
    (l.into.items ++ keys_but l.aside l.key-iterator ≡ l.fn.into.items ++ keys_but l.aside (keys_of l.index.entries))
    × (vec_len l.into + length l.key-iterator ≤ vec_capacity l.into)
