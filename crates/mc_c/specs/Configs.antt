-- A configuration as C has it, and as the cache has it.
use Rattle.std.specs.Prelude.{◌≡◌, ◌≤◌, ℕ, None}
use Rattle.mc_cache.specs.declared.hashing.HashKey.{HashKey}
use Rattle.mc_cache.specs.declared.opening.CacheConfig.{CacheConfig}
use Rattle.mc_cache.specs.Opening.{cache_refusal}
use Rattle.mc_cache.specs.Sizing.{FillsBytes, filled_bytes}
use Rattle.mc_c.specs.declared.config.McConfig.{McConfig}

-- the configuration of a cache for n workers
abbrev pub config_for : McConfig → ℕ → CacheConfig
config_for config workers = record {
  arena = record { page = config.page; limit = config.limit; first = config.first; num = config.num; den = config.den; max = config.max; stripes = config.stripes; bulk = config.bulk };
  shards = config.shards;
  workers = workers;
}

-- the two numbers of the configuration with which keys are hashed
abbrev pub hash_key_in : McConfig → HashKey
hash_key_in config = record { first = config.hash_first; second = config.hash_second }

-- the configuration with the cache's numbers in place of its own, but for those of the hash
abbrev pub config_with : McConfig → CacheConfig → McConfig
config_with config own = record config {
  page = own.arena.page;
  limit = own.arena.limit;
  first = own.arena.first;
  num = own.arena.num;
  den = own.arena.den;
  max = own.arena.max;
  stripes = own.arena.stripes;
  bulk = own.arena.bulk;
  shards = own.shards;
}

-- the configuration was written that takes most of this many bytes
pub record WritesSized (bytes workers : ℕ) (before now : McConfig) : Type 0 where
  pub sized : CacheConfig
  pub is : now ≡ config_with before sized
  pub fits : filled_bytes sized ≤ bytes
  pub full : FillsBytes bytes sized
  pub accepted : cache_refusal sized ≡ None
  pub workers_are : sized.workers ≡ workers
