use Rattle.mc_cache.specs.Belonging.{BelongsTo}
use Rattle.test_update.proofs.tests.refused.listing.list_shard.Given as goal

abbrev pub invariant-loop-stripe : goal.invariant-loop-stripe
invariant-loop-stripe g l = BelongsTo l.cache l.worker
