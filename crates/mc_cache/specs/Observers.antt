-- What clauses of other crates read of a cache.
use Rattle.std.specs.Prelude.{ℕ, List, Option, length, slice_get}
use Rattle.std.specs.Option.{option_map}
use Rattle.mc_classes.specs.Classes.{Classes}
use Rattle.mc_words.specs.declared.arena.Arena.{Arena}
use Rattle.mc_words.specs.hand.Arenas.{setup_of}
use Rattle.mc_cache.specs.declared.cache.Cache.{Cache}
use Rattle.mc_cache.specs.declared.hashing.HashKey.{HashKey}

-- the arenas of a cache, shard by shard
abbrev pub arenas_of : Cache → List Arena
arenas_of cache = cache.arenas.items

-- how many shards a cache has
abbrev pub shard_count : Cache → ℕ
shard_count cache = length (arenas_of cache)

-- the numbers with which the cache hashes keys
abbrev pub hash_key : Cache → HashKey
hash_key cache = cache.hashing

-- the size classes of the first shard
abbrev pub classes_of : Cache → Option Classes
classes_of cache = option_map (λ arena. (setup_of arena).table) (slice_get (arenas_of cache) 0)
