use Rattle.std.proofs.Common.{arith}
use Rattle.mc_waste.proofs.Shares.{first_of_item, no_63, fifth_of_between, ninth_of_last}
use Rattle.mc_waste.proofs.laws.five_quarters.Goals as goal

pub returns-clause-first : goal.returns-clause-first
returns-clause-first c = λ config table words h. omega (arith, first_of_item config table words h)

pub returns-clause-within_limit : goal.returns-clause-within_limit
returns-clause-within_limit c = no_63

pub returns-clause-between : goal.returns-clause-between
returns-clause-between c = fifth_of_between

pub returns-clause-last : goal.returns-clause-last
returns-clause-last c = ninth_of_last
