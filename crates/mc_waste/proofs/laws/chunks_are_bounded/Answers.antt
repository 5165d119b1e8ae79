use Rattle.mc_waste.proofs.Shares.{most_of_item, most_met}
use Rattle.mc_waste.proofs.laws.chunks_are_bounded.Goals as goal

pub returns-clause-most : goal.returns-clause-most
returns-clause-most c = most_of_item

pub returns-clause-met : goal.returns-clause-met
returns-clause-met c = most_met
