use Rattle.mc_stripe.proofs.Once.{one_twice, two_keys}
use Rattle.mc_stripe.proofs.laws.worked_keys.Goals as goal

pub returns-clause-differ : goal.returns-clause-differ
returns-clause-differ c = two_keys

pub returns-clause-meet : goal.returns-clause-meet
returns-clause-meet c = one_twice
