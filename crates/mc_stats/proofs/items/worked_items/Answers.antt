use Rattle.std.proofs.Common.{refl}
use Rattle.std.specs.Fmt.{digits}
use Rattle.mc_stats.proofs.items.worked_items.Goals as goal

pub returns : goal.returns
unfolding digits
returns c = record { items = refl; usage = refl }
