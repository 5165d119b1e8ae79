-- What callers did within tries that cleared a cache, or listed the keys of a part.
use Rattle.std.specs.Prelude.{◌≡◌, ◌⊎◌, ◌+◌, ◌-◌, ◌^◌, ℕ, List, min}
use Rattle.mc_cache.specs.declared.cache.Cache.{Cache}
use Rattle.mc_cache.specs.declared.cache.Worker.{Worker}
use Rattle.mc_cache.specs.Listing.{ListsPartAgain, MissesListingPart}
use Rattle.mc_cache.specs.Walking.{ClearsCacheAgain, StopsClearingWithin}
use Rattle.mc_shard.specs.declared.clearing.ClearWithinError.{ClearWithinError}
use Rattle.mc_shard.specs.declared.clearing.ClearWithinError.TheVariants.{Held, NoMemory}

-- how many keys two clears deleted, of which the first one stopped by this error; the sum stays at 2^64 - 1 once there
abbrev pub deleted_by_both : ClearWithinError → ℕ → ℕ
deleted_by_both (NoMemory refused) second = second
deleted_by_both (Held deleted) second = min (deleted + second) (2 ^ 64 - 1)

-- the worker's first clear stopped, as at a lock, and the next one deleted every key, and this is what both deleted
pub record ClearsInTwoCalls (cache : Cache) (tries total : ℕ) (before now : Worker) : Type 0 where
  pub first : ClearWithinError
  pub second : ℕ
  pub between : Worker
  pub stops : StopsClearingWithin cache tries first before between
  pub clears : ClearsCacheAgain cache second between now
  pub summed : total ≡ deleted_by_both first second

-- the worker deleted every key of the cache, in one call or in two, n in all
abbrev pub ClearsAtSecondTry : Cache → ℕ → ℕ → Worker → Worker → Type 0
ClearsAtSecondTry cache tries total before now = ClearsCacheAgain cache total before now ⊎ ClearsInTwoCalls cache tries total before now

-- the worker listed the keys of the part in one call, perhaps once another call had missed the part's lock and put none
pub record ListsAtSecondTry (cache : Cache) (tries shard stripe : ℕ) (old new : List (List ℕ)) (before now : Worker) : Type 0 where
  pub between : Worker
  pub first : (between ≡ before) ⊎ MissesListingPart cache tries shard stripe before between
  pub lists : ListsPartAgain cache shard stripe old new between now
