use Rattle.mc_stripe.proofs.Sequential.{one_map}
use Rattle.mc_core.proofs.laws.one_replay.Goals as goal

pub returns : goal.returns
returns c = one_map
