use Rattle.mc_items.proofs.Chains.{keeping_goes_on}
use Rattle.mc_items.proofs.laws.keeping_goes_on.Goals as goal

pub returns : goal.returns
returns c = keeping_goes_on
