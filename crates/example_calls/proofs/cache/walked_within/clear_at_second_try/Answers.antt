use Rattle.std.proofs.Common.{inl, inr}
use Rattle.example_calls.proofs.cache.walked_within.clear_at_second_try.Goals as goal

pub returns-in-Ok-clause-clears : goal.returns-in-Ok-clause-clears
returns-in-Ok-clause-clears c = inl c.in-Ok.ensures.clears

pub returns-in-Ok-clear_within-clause-clears : goal.returns-in-Ok-clear_within-clause-clears
returns-in-Ok-clear_within-clause-clears c =
    inr (record { first = c.in-Err.first; second = c.in-Ok-clear_within.second; between = c.clear_within.new.self; stops = c.in-Err.ensures.stops; clears = c.in-Ok-clear_within.ensures.clears; summed = c.deleted_by_both.ensures })
