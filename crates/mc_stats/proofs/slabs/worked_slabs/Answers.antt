use Rattle.std.proofs.Common.{refl}
use Rattle.std.specs.Fmt.{digits}
use Rattle.mc_stats.proofs.slabs.worked_slabs.Goals as goal

pub returns : goal.returns
unfolding digits
returns c = refl
