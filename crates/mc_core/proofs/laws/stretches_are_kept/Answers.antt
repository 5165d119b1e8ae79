use Rattle.mc_core.proofs.Law.Stretches.{stretches_keep}
use Rattle.mc_core.proofs.laws.stretches_are_kept.Goals as goal

pub returns : goal.returns
returns c = stretches_keep
