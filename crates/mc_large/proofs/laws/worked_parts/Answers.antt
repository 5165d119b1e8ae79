use Rattle.std.proofs.Common.{refl}
use Rattle.mc_packing.specs.Packing.{bytes_of_word}
use Rattle.mc_large.proofs.laws.worked_parts.Goals as goal

pub returns-clause-roots : goal.returns-clause-roots
unfolding bytes_of_word
returns-clause-roots c = (refl, refl)
