use Rattle.mc_mover.proofs.SameItems.{rescues_keep}
use Rattle.mc_mover.proofs.laws.rescues_keep_items.Goals as goal

pub returns : goal.returns
returns c = rescues_keep
