-- A value that got a later deadline and was read.
use Rattle.std.specs.Prelude.{◌≡◌, ◌<◌, ◌^◌, ◌++◌, ℕ, List, Some, Ok}
use Rattle.mc_cache.specs.declared.cache.Cache.{Cache}
use Rattle.mc_cache.specs.declared.cache.Worker.{Worker}
use Rattle.mc_cache.specs.Belonging.{ActsOnKey, hash_in}
use Rattle.mc_cache.specs.Versions.{ReadsVersion}
use Rattle.mc_expiry.specs.Deadlines.{IsUnexpired, timed_bytes}
use Rattle.mc_expiry.specs.Storing.{StoresUntil}
use Rattle.mc_expiry.specs.declared.kinds.StoreKind.TheVariants.{Touch}

-- the worker stored the key's unexpired value with this deadline, and then found a value that was stored with some deadline, which isn't
-- reached, and which was added behind the old bytes
pub record RenewsAndReads (cache : Cache) (key : List ℕ) (time deadline : ℕ) (old new : List ℕ) (before now : Worker) : Type 0 where
  pub version : ℕ
  pub between : Worker
  pub renews : StoresUntil cache key Touch time deadline (Ok (Some version)) before between
  pub value : List ℕ
  pub added : new ≡ old ++ value
  pub its_deadline : ℕ
  pub fits : its_deadline < 2 ^ 32
  pub unexpired : IsUnexpired its_deadline time
  pub its_version : ℕ
  pub finds : ActsOnKey cache key (ReadsVersion (hash_in cache key) key (timed_bytes its_deadline value) its_version) between now
