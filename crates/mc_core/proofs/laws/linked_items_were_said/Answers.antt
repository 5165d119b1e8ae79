use Rattle.mc_core.proofs.Law.Follows.{are_said_items}
use Rattle.mc_core.proofs.laws.linked_items_were_said.Goals as goal

pub returns : goal.returns
returns c = are_said_items
