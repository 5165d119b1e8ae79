use Rattle.std.proofs.Common.{length}
use Rattle.mc_cache.specs.Belonging.{BelongsTo}
use Rattle.mc_large.proofs.Stores.{AreStored}
use Rattle.mc_large.proofs.parts.store_parts.Given as goal

abbrev pub invariant-loop-rest : goal.invariant-loop-rest
invariant-loop-rest g l = BelongsTo l.cache l.worker × AreStored l.cache l.key l.room l.value l.rest l.versions.items l.fn.worker l.worker

abbrev pub decreases-loop-rest : goal.decreases-loop-rest
decreases-loop-rest g l = length l.rest
