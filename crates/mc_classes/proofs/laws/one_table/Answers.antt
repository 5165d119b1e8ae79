use Rattle.mc_classes.proofs.OneTable.{one_table}
use Rattle.mc_classes.proofs.laws.one_table.Goals as goal

pub returns : goal.returns
returns c = one_table
