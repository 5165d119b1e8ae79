use Rattle.mc_cache.proofs.ByClass.{each_shard_counts}
use Rattle.mc_cache.proofs.class_items.worked_shard_items.Goals as goal

pub returns : goal.returns
returns c = record { shards = each_shard_counts }
