use Rattle.std.proofs.Common.{refl}
use Rattle.std.specs.Hash.DefaultHasher.{initial}
use Rattle.mc_cache.proofs.sip.Lanes.new.Goals as goal

pub returns : goal.returns
unfolding initial
returns c = refl
