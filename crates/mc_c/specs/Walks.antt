-- What a call does that walks over the whole cache, and the code that it returns.
use Rattle.std.specs.Prelude.{◌≡◌, ◌⊎◌, ℕ}
use Rattle.mc_cache.specs.Walking.{ClearsCacheAgain, CountsItemsAgain, LosesEachHash, MissesClearingCache, MissesCountingItems, StopsClearingAgain}
use Rattle.mc_shard.specs.declared.clearing.ClearWithinError.{ClearWithinError}
use Rattle.mc_shard.specs.declared.clearing.ClearWithinError.TheVariants.{Held, NoMemory}
use Rattle.mc_c.specs.declared.client.WorkerClient.{WorkerClient}
use Rattle.mc_c.specs.Calls.{cache_of}

-- the code of a clear that stopped by this error, and what it wrote: how many keys it had deleted, where it stopped at a lock
abbrev pub WritesStop : ClearWithinError → ℕ → ℕ → ℕ → Type 0
WritesStop (NoMemory refused) code before now = (code ≡ 6) × (now ≡ before)
WritesStop (Held deleted) code before now = (code ≡ 2) × (now ≡ deleted)

-- the client deleted every key of the cache and wrote how many; or it stopped at a lock and wrote how many it had deleted; or a stripe had no room for
-- the call of a delete, and nothing was written
pub record ClearsAs (code tries before now : ℕ) (client after : WorkerClient) : Type 0 where
  pub codes : (code ≡ 0) ⊎ (code ≡ 2) ⊎ (code ≡ 6)
  pub clears : code ≡ 0 → ClearsCacheAgain (cache_of client) now client.worker after.worker
  -- what was stored before the call began is gone
  pub gone : code ≡ 0 → LosesEachHash (cache_of client) client.worker after.worker
  pub held : code ≡ 2 → MissesClearingCache (cache_of client) tries now client.worker after.worker
  pub refused : code ≡ 6 → StopsClearingAgain (cache_of client) client.worker after.worker
  pub kept : code ≡ 6 → now ≡ before
  pub cache : cache_of after ≡ cache_of client
  pub spare : after.spare.items ≡ client.spare.items

-- the client counted the items of the cache and wrote how many, or stopped at a stripe and wrote nothing
pub record CountsItemsAs (code tries before now : ℕ) (client after : WorkerClient) : Type 0 where
  pub codes : (code ≡ 0) ⊎ (code ≡ 2)
  pub counts : code ≡ 0 → CountsItemsAgain (cache_of client) now client.worker after.worker
  pub held : code ≡ 2 → MissesCountingItems (cache_of client) tries client.worker after.worker
  pub kept : code ≡ 2 → now ≡ before
  pub cache : cache_of after ≡ cache_of client
  pub spare : after.spare.items ≡ client.spare.items
