use Rattle.std.proofs.Common.{refl}
use Rattle.mc_cache.specs.Bytes.{classes_from}
use Rattle.mc_cache.proofs.sizing.worked_sizes.Goals as goal

pub returns : goal.returns
unfolding classes_from
returns c = (refl, refl, refl, refl, refl, refl, refl)
