use Rattle.std.proofs.Common.{refl}
use Rattle.mc_cache.specs.Bytes.{classes_from}
use Rattle.mc_cache.proofs.bytes.worked_bytes.Goals as goal

pub returns-clause-small : goal.returns-clause-small
unfolding classes_from
returns-clause-small c = (refl, refl)

pub returns-clause-large : goal.returns-clause-large
unfolding classes_from
returns-clause-large c = refl
