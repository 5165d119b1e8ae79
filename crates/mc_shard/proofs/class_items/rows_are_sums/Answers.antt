use Rattle.mc_shard.proofs.Sums.{rows_are_sums}
use Rattle.mc_shard.proofs.class_items.rows_are_sums.Goals as goal

pub returns : goal.returns
returns c = record { sums = rows_are_sums }
