use Rattle.mc_core.proofs.Frame.Framed.{are_framed}
use Rattle.mc_core.proofs.laws.others_are_left_alone.Goals as goal

pub returns : goal.returns
returns c = are_framed
