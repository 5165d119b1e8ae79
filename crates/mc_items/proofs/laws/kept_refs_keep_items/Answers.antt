use Rattle.mc_items.proofs.Chains.{kept_refs_keep_items}
use Rattle.mc_items.proofs.laws.kept_refs_keep_items.Goals as goal

pub returns : goal.returns
returns c = kept_refs_keep_items
