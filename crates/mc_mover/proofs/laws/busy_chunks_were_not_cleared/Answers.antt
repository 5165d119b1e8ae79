use Rattle.mc_mover.proofs.Nobodys.{busy_uncleared}
use Rattle.mc_mover.proofs.laws.busy_chunks_were_not_cleared.Goals as goal

pub returns : goal.returns
returns c = busy_uncleared
