use Rattle.mc_mover.proofs.Answered.{finishes_there}
use Rattle.mc_mover.proofs.laws.turns_finish_exactly.Goals as goal

pub returns : goal.returns
returns c = finishes_there
