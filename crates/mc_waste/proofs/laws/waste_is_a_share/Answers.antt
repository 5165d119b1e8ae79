use Rattle.mc_waste.proofs.Shares.{first_of_item, share_of_between, share_of_last}
use Rattle.mc_waste.proofs.laws.waste_is_a_share.Goals as goal

pub returns-clause-first : goal.returns-clause-first
returns-clause-first c = first_of_item

pub returns-clause-between : goal.returns-clause-between
returns-clause-between c = share_of_between

pub returns-clause-last : goal.returns-clause-last
returns-clause-last c = share_of_last
