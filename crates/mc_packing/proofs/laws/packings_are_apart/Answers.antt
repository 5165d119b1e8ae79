use Rattle.mc_packing.proofs.Packs.{keys_apart, one_key, values_apart}
use Rattle.mc_packing.proofs.laws.packings_are_apart.Goals as goal

pub returns-clause-keys : goal.returns-clause-keys
returns-clause-keys c = keys_apart

pub returns-clause-values : goal.returns-clause-values
returns-clause-values c = values_apart

pub returns-clause-one : goal.returns-clause-one
returns-clause-one c = one_key
