use Rattle.mc_items.proofs.Chains.{releasing_keeps_others}
use Rattle.mc_items.proofs.laws.releasing_keeps_others.Goals as goal

pub returns : goal.returns
returns c = releasing_keeps_others
