use Rattle.mc_expiry.proofs.Timed.{either_is, lackers_have, never_both, timed_once}
use Rattle.mc_expiry.proofs.laws.deadlines_are_told_apart.Goals as goal

pub returns-clause-unique : goal.returns-clause-unique
returns-clause-unique c = timed_once

pub returns-clause-either : goal.returns-clause-either
returns-clause-either c = λ deadline time. (either_is deadline time, never_both deadline time)

pub returns-clause-lackers : goal.returns-clause-lackers
returns-clause-lackers c = lackers_have
