use Rattle.mc_large.proofs.Words.{roots_are_unique}
use Rattle.mc_large.proofs.laws.roots_are_told_apart.Goals as goal

pub returns : goal.returns
returns c = roots_are_unique
