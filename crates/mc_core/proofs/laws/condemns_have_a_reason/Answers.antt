use Rattle.mc_core.proofs.Seen.Reasons.{condemns_are_reasoned}
use Rattle.mc_core.proofs.laws.condemns_have_a_reason.Goals as goal

pub returns : goal.returns
returns c = condemns_are_reasoned
