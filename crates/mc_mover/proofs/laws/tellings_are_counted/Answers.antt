use Rattle.mc_mover.proofs.OwnCalls.{tellings_counted}
use Rattle.mc_mover.proofs.laws.tellings_are_counted.Goals as goal

pub returns : goal.returns
returns c = tellings_counted
