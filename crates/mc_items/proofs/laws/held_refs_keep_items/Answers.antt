use Rattle.mc_items.proofs.Chains.{held_refs_keep_items}
use Rattle.mc_items.proofs.laws.held_refs_keep_items.Goals as goal

pub returns : goal.returns
returns c = held_refs_keep_items
