use Rattle.mc_core.proofs.Law.Follows.{are_kept}
use Rattle.mc_core.proofs.laws.held_chunks_are_handed_out.Goals as goal

pub returns : goal.returns
returns c = are_kept
