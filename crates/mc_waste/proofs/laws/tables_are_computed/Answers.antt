use Rattle.mc_waste.proofs.Computed.{is_computed}
use Rattle.mc_waste.proofs.laws.tables_are_computed.Goals as goal

pub returns : goal.returns
returns c = is_computed
