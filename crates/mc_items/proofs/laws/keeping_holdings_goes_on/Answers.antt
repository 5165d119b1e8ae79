use Rattle.mc_items.proofs.Chains.{keeping_holdings_goes_on}
use Rattle.mc_items.proofs.laws.keeping_holdings_goes_on.Goals as goal

pub returns : goal.returns
returns c = keeping_holdings_goes_on
