-- What a worker does whose set of a value with a deadline is refused.
use Rattle.std.specs.Prelude.{◌≡◌, ◌⊎◌, ℕ, List}
use Rattle.mc_items.specs.declared.setting.SetError.{SetError}
use Rattle.mc_items.specs.declared.setting.SetError.TheVariants.{NoMemory}
use Rattle.mc_cache.specs.declared.cache.Cache.{Cache}
use Rattle.mc_cache.specs.declared.cache.Worker.{Worker}
use Rattle.mc_cache.specs.Belonging.{DeletesAnyOf, RefusesAndDeletes}
use Rattle.mc_expiry.specs.Deadlines.{timed_bytes}

-- the store of the value with its deadline was refused, and then the key's old value was deleted; or there was no memory for their bytes, and
-- the key's old value was deleted
abbrev pub RefusesUntil : Cache → List ℕ → List ℕ → ℕ → SetError → Worker → Worker → Type 0
RefusesUntil cache key value deadline error before now =
    RefusesAndDeletes cache key (timed_bytes deadline value) error before now ⊎ ((error ≡ NoMemory tt) × DeletesAnyOf cache key before now)
