use Rattle.mc_core.proofs.Frame.Effects.{runs_are_played}
use Rattle.mc_core.proofs.laws.runs_are_played.Goals as goal

pub returns : goal.returns
returns c = runs_are_played
