-- A new cache, its workers and its tender, and the code where none was made.
use Rattle.std.specs.Prelude.{◌≡◌, ◌⊎◌, ◌++◌, ◌∷◌, ℕ, List, [], All, Option, None, Some, length}
use Rattle.mc_cache.specs.declared.cache.Cache.{Cache}
use Rattle.mc_cache.specs.declared.cache.Worker.{Worker}
use Rattle.mc_cache.specs.declared.hashing.HashKey.{HashKey}
use Rattle.mc_cache.specs.declared.opening.CacheConfig.{CacheConfig}
use Rattle.mc_cache.specs.declared.opening.NewError.{NewError}
use Rattle.mc_cache.specs.declared.tending.Tender.{Tender}
use Rattle.mc_cache.specs.Belonging.{HaveUnusedHands}
use Rattle.mc_cache.specs.Bytes.{config_table_bytes, table_bytes}
use Rattle.mc_cache.specs.Observers.{arenas_of, hash_key, shard_count}
use Rattle.mc_cache.specs.Opening.{IsNewShard, cache_refusal}
use Rattle.mc_cache.specs.Pairs.{ArePaired}
use Rattle.mc_cache.specs.Shards.{AreUnusedHands}
use Rattle.mc_cache.specs.Tending.{IsFreshDecider, deciders_of, tender_hands}
use Rattle.mc_c.specs.declared.client.TenderClient.{TenderClient}
use Rattle.mc_c.specs.declared.client.WorkerClient.{WorkerClient}
use Rattle.mc_c.specs.declared.config.McConfig.{McConfig}
use Rattle.mc_c.specs.declared.handle.Handle.{Handle}
use Rattle.mc_c.specs.Calls.{cache_of}
use Rattle.mc_c.specs.Codes.{new_code}
use Rattle.mc_c.specs.Configs.{config_for, hash_key_in}
use Rattle.mc_c.specs.Handles.{tender_of, worker_of}
use Rattle.mc_c.specs.TenderCalls as tending

-- the cache is a new one by the configuration, and these are all its workers and its tender, who did nothing yet
pub record IsOpened (config : CacheConfig) (hashing : HashKey) (cache : Cache) (workers : List Worker) (tender : Tender) : Type 0 where
  pub accepted : cache_refusal config ≡ None
  pub shards : shard_count cache ≡ config.shards
  pub hashed_by : hash_key cache ≡ hashing
  pub arenas : All (IsNewShard config) (arenas_of cache)
  pub bytes : table_bytes cache ≡ config_table_bytes config
  pub worker_count : length workers ≡ config.workers
  pub unused : HaveUnusedHands (arenas_of cache) workers
  pub tender_unused : AreUnusedHands (arenas_of cache) (tender_hands tender)
  pub deciders : ArePaired IsFreshDecider (arenas_of cache) (deciders_of tender)

-- the worker has the spare workers of a new cache, whose tender the other client is
pub record OpensCache (config : McConfig) (workers : ℕ) (worker : WorkerClient) (tender : TenderClient) : Type 0 where
  pub one_cache : tending.cache_of tender ≡ cache_of worker
  pub opened : IsOpened (config_for config workers) (hash_key_in config) (cache_of worker) (worker.spare.items ++ worker.worker ∷ []) tender.tender

-- the handles lead to the first worker and to the tender of a new cache
pub record OpensHandles (config : McConfig) (workers : ℕ) (first tender : Handle) : Type 0 where
  pub worker : WorkerClient
  pub leads_first : worker_of first ≡ Some worker
  pub tends : TenderClient
  pub leads_tender : tender_of tender ≡ Some tends
  pub opens : OpensCache config workers worker tends

-- the code where no cache was made: that of the refused configuration, or 2 for a lock that was missed, or 6 for want of memory
abbrev pub IsOpeningCode : Option NewError → ℕ → Type 0
IsOpeningCode (Some error) code = code ≡ new_code error
IsOpeningCode None code = (code ≡ 2) ⊎ (code ≡ 6)
