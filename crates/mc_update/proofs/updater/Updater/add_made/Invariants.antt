use Rattle.std.proofs.Common.{◌≡◌, ◌⊎◌, ℕ}
use Rattle.mc_cache.specs.Belonging.{BelongsTo}
use Rattle.mc_cache.specs.Shards.{IsKey}
use Rattle.mc_update.specs.Adding.{MissesAddTimes}
use Rattle.mc_update.specs.Updates.{stored_by}
use Rattle.mc_update.proofs.updater.Updater.add_made.Given as goal

abbrev pub invariant-loop : goal.invariant-loop
invariant-loop g l =
    BelongsTo l.cache l.worker × (stored_by l.self ≡ stored_by l.fn.self)
    × ((l.worker ≡ l.fn.worker) ⊎ (IsKey l.key × ((times : ℕ) × MissesAddTimes times l.cache l.key (stored_by l.fn.self) l.fn.worker l.worker)))
