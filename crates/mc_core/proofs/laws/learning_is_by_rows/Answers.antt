use Rattle.mc_core.proofs.Known.Learns.{are_learned}
use Rattle.mc_core.proofs.laws.learning_is_by_rows.Goals as goal

pub returns : goal.returns
returns c = are_learned
