use Rattle.std.proofs.Common.{◌≡◌, ◌⊎◌, ℕ}
use Rattle.mc_cache.specs.Belonging.{BelongsTo}
use Rattle.mc_cache.specs.Shards.{IsKey}
use Rattle.mc_expiry.specs.Getting.{lapsed_count}
use Rattle.mc_expiry.specs.Storing.{MissesStoreTimes}
use Rattle.mc_expiry.proofs.expiry.Expiry.store_until.Given as goal

abbrev pub invariant-loop : goal.invariant-loop
invariant-loop g l =
    BelongsTo l.cache l.worker × ((l.worker ≡ l.fn.worker) ⊎ (IsKey l.key × ((times : ℕ) × MissesStoreTimes times l.cache l.key l.kind l.time l.deadline l.fn.worker l.worker))) × (lapsed_count l.self ≡ lapsed_count l.fn.self)
