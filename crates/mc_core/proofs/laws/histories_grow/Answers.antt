use Rattle.mc_core.proofs.Frame.Effects.{histories_grow}
use Rattle.mc_core.proofs.laws.histories_grow.Goals as goal

pub returns : goal.returns
returns c = histories_grow
