use Rattle.std.proofs.Common.{refl}
use Rattle.std.specs.Fmt.{digits}
use Rattle.mc_stats.proofs.class_metrics.worked_class_metrics.Goals as goal

pub returns : goal.returns
unfolding digits
returns c = record { classes = refl; whole = refl }
