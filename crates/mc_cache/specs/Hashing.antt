-- The hash of a key of bytes, and which shard has it.
use Rattle.std.specs.Prelude.{ℕ, ◌*◌, ◌/◌, ◌^◌, List}
use Rattle.std.specs.Hash.{le_bytes}
use Rattle.std.specs.declared.hash.DefaultHasher.{DefaultHasher}
use Rattle.std.specs.Hash.DefaultHasher as sip
use Rattle.mc_cache.specs.declared.hashing.HashKey.{HashKey}

-- SipHash-1-3 that has taken in the two numbers, each of eight bytes, the lowest first
unfoldable pub started_by : HashKey → DefaultHasher
started_by numbers = sip.write (sip.write sip.initial (le_bytes 8 numbers.first)) (le_bytes 8 numbers.second)

-- SipHash-1-3 of the two numbers and then of the key
unfoldable pub hash_of : HashKey → List ℕ → ℕ
hash_of numbers key = sip.finish (sip.write (started_by numbers) key)

-- the shard of a hash, of n: the upper half of the hash goes evenly over them
abbrev pub shard_of : ℕ → ℕ → ℕ
shard_of shards hash = hash / 2 ^ 32 * shards / 2 ^ 32
