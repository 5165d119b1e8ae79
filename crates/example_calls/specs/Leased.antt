-- A lease that was taken or renewed.
use Rattle.std.specs.Prelude.{ℕ, List, Option, None, Some, Ok}
use Rattle.mc_shard.specs.declared.conditions.Outcome.TheVariants.{Stored}
use Rattle.mc_cache.specs.declared.cache.Cache.{Cache}
use Rattle.mc_cache.specs.declared.cache.Worker.{Worker}
use Rattle.mc_cache.specs.Belonging.{ActsOnKey, hash_in}
use Rattle.mc_cache.specs.Conditional.{SetsValueIf}
use Rattle.mc_expiry.specs.Deadlines.{timed_bytes}
use Rattle.mc_expiry.specs.Looking.{LooksAtKey, condition_of}

-- the worker looked at the key, and found this unexpired value or none; then it stored the owner with the deadline, as the key still had
-- what it found
pub record StoresOwner (cache : Cache) (key : List ℕ) (unexpired : Option (List ℕ)) (owner : List ℕ) (time deadline : ℕ) (now : Worker) : Type 0 where
  pub found : Option ℕ
  pub before : Worker
  pub between : Worker
  pub looks : LooksAtKey cache key time unexpired found before between
  pub stamp : ℕ
  pub sets : ActsOnKey cache key (SetsValueIf (hash_in cache key) key (timed_bytes deadline owner) (condition_of found) (Ok (Stored stamp))) between now

-- nobody had the lease at this time, and the owner has it until the deadline
abbrev pub TakesLease : Cache → List ℕ → List ℕ → ℕ → ℕ → Worker → Type 0
TakesLease cache key owner time deadline now = StoresOwner cache key None owner time deadline now

-- somebody had the lease at this time, and the owner has it until the deadline
abbrev pub RenewsLease : Cache → List ℕ → List ℕ → ℕ → ℕ → Worker → Type 0
RenewsLease cache key owner time deadline now = (holder : List ℕ) × StoresOwner cache key (Some holder) owner time deadline now
