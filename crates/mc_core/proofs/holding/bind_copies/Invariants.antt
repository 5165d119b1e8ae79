use Rattle.std.proofs.Common.{◌≡◌, if◌then◌else◌}
use Rattle.mc_core.specs.model.Holdings.{is_copy_of}
use Rattle.mc_core.specs.run.Evictions.{as_rescue}
use Rattle.mc_core.proofs.Steps.Lists.{changed_to}
use Rattle.mc_core.proofs.holding.bind_copies.Given as goal

abbrev pub invariant-loop-holding : goal.invariant-loop-holding
invariant-loop-holding l = l.holding-items ≡ changed_to l.holding-index (λ holding. if is_copy_of l.chunk holding then as_rescue l.chunk l.item holding else holding) l.fn.holdings
