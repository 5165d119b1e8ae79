use Rattle.mc_packing.proofs.Looks.{is_packed, looks_packed, value_of_looks}
use Rattle.mc_packing.proofs.laws.packings_by_looks.Goals as goal

pub returns-clause-looks : goal.returns-clause-looks
returns-clause-looks c = looks_packed

pub returns-clause-packing : goal.returns-clause-packing
returns-clause-packing c = is_packed

pub returns-clause-value : goal.returns-clause-value
returns-clause-value c = value_of_looks
