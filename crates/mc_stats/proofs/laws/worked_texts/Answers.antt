use Rattle.std.proofs.Common.{refl}
use Rattle.std.specs.Fmt.{digits}
use Rattle.mc_stats.proofs.laws.worked_texts.Goals as goal

pub returns-clause-stats : goal.returns-clause-stats
unfolding digits
returns-clause-stats c = refl

pub returns-clause-metrics : goal.returns-clause-metrics
unfolding digits
returns-clause-metrics c = refl
