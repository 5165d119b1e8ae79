use Rattle.std.proofs.Common.{◌≡◌, [], replicate}
use Rattle.mc_core.proofs.state.made.rows_of.Given as goal

abbrev pub invariant-loop : goal.invariant-loop
invariant-loop g l = l.rows.items ≡ replicate l.counter []
