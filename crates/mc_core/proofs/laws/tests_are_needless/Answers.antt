use Rattle.mc_core.proofs.Steps.Needless.{are_needless}
use Rattle.mc_core.proofs.laws.tests_are_needless.Goals as goal

pub returns : goal.returns
returns c = are_needless
