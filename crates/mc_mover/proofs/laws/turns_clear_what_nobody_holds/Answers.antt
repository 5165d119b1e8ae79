use Rattle.mc_mover.proofs.Nobodys.{clears_unheld}
use Rattle.mc_mover.proofs.laws.turns_clear_what_nobody_holds.Goals as goal

pub returns : goal.returns
returns c = clears_unheld
