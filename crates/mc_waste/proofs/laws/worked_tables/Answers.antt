use Rattle.std.proofs.Common.{refl}
use Rattle.mc_waste.specs.Tables.{sizes_from}
use Rattle.mc_waste.proofs.laws.worked_tables.Goals as goal

pub returns-clause-default_sizes : goal.returns-clause-default_sizes
unfolding sizes_from
returns-clause-default_sizes c = refl

pub returns-clause-default_wastes : goal.returns-clause-default_wastes
unfolding sizes_from
returns-clause-default_wastes c = refl

pub returns-clause-finer_sizes : goal.returns-clause-finer_sizes
unfolding sizes_from
returns-clause-finer_sizes c = refl

pub returns-clause-finer_wastes : goal.returns-clause-finer_wastes
unfolding sizes_from
returns-clause-finer_wastes c = refl

pub returns-clause-large_sizes : goal.returns-clause-large_sizes
unfolding sizes_from
returns-clause-large_sizes c = refl

pub returns-clause-large_wastes : goal.returns-clause-large_wastes
unfolding sizes_from
returns-clause-large_wastes c = refl

pub returns-clause-rounding_counts : goal.returns-clause-rounding_counts
unfolding sizes_from
returns-clause-rounding_counts c = (refl, refl, refl, refl)

pub returns-clause-last_is_more : goal.returns-clause-last_is_more
unfolding sizes_from
returns-clause-last_is_more c = (refl, refl, refl)

pub returns-clause-last_is_met : goal.returns-clause-last_is_met
unfolding sizes_from
returns-clause-last_is_met c = (refl, refl, refl)

pub returns-clause-sizes_stand_still : goal.returns-clause-sizes_stand_still
unfolding sizes_from
returns-clause-sizes_stand_still c = (refl, refl)
