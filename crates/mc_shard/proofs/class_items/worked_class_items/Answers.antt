use Rattle.mc_shard.proofs.ByClass.{each_stripe_counts}
use Rattle.mc_shard.proofs.class_items.worked_class_items.Goals as goal

pub returns-clause-stripes : goal.returns-clause-stripes
returns-clause-stripes c = each_stripe_counts
