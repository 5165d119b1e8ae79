use Rattle.std.proofs.Common.{◌≡◌, None, replicate}
use Rattle.mc_core.proofs.state.State.blank.Given as goal

abbrev pub invariant-loop : goal.invariant-loop
invariant-loop l = l.words ≡ replicate l.counter None
