use Rattle.std.proofs.Common.{◌≡◌, ◌⊎◌, ℕ}
use Rattle.mc_cache.specs.Belonging.{BelongsTo}
use Rattle.mc_cache.specs.Shards.{IsKey}
use Rattle.mc_update.specs.Updates.{SetInVainTimes}
use Rattle.mc_update.proofs.updater.Updater.change_value.Given as goal

abbrev pub invariant-loop : goal.invariant-loop
invariant-loop g l =
    BelongsTo l.cache l.worker × ((l.worker ≡ l.fn.worker) ⊎ (IsKey l.key × ((times : ℕ) × SetInVainTimes times l.cache l.key l.change l.fn.worker l.worker)))
