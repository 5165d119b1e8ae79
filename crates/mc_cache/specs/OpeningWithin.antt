-- When a cache is refused to a caller that doesn't wait.
use Rattle.std.specs.Prelude.{◌≡◌, None, Ok, Err, Result, unwrap_or}
use Rattle.mc_cache.specs.declared.opening.CacheConfig.{CacheConfig}
use Rattle.mc_cache.specs.declared.opening.NewError.TheVariants as new_error
use Rattle.mc_cache.specs.declared.opening_within.NewWithinError.{NewWithinError}
use Rattle.mc_cache.specs.declared.opening_within.NewWithinError.TheVariants.{Refused, Held}
use Rattle.mc_cache.specs.Opening.{cache_refusal}

-- a refusal is the first test that the configuration fails, or want of memory; a lock is missed only by an accepted configuration
abbrev pub RefusesOpening : {T : Type 0} → CacheConfig → Result T NewWithinError → Type 0
RefusesOpening config (Ok made) = cache_refusal config ≡ None
RefusesOpening config (Err (Refused error)) = error ≡ unwrap_or (cache_refusal config) (new_error.NoMemory tt)
RefusesOpening config (Err Held) = cache_refusal config ≡ None
