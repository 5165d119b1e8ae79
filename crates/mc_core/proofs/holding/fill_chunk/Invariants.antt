use Rattle.std.proofs.Common.{◌≡◌, if◌then◌else◌}
use Rattle.mc_core.specs.model.Holdings.{is_of_chunk}
use Rattle.mc_core.specs.run.Chunks.{holding_with_word}
use Rattle.mc_core.proofs.Steps.Lists.{changed_to}
use Rattle.mc_core.proofs.holding.fill_chunk.Given as goal

abbrev pub invariant-loop-holding : goal.invariant-loop-holding
invariant-loop-holding l = l.holding-items ≡ changed_to l.holding-index (λ holding. if is_of_chunk l.chunk holding then holding_with_word l.place l.word holding else holding) l.fn.holdings
