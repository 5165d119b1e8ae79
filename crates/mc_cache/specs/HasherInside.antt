-- A hasher that has taken its numbers in.
use Rattle.std.specs.Prelude.{◌≡◌}
use Rattle.mc_cache.specs.declared.hashing.HashKey.{HashKey}
use Rattle.mc_cache.specs.declared.hashing.KeyedHasher.TheInside.{Inside}
use Rattle.mc_cache.specs.Hashing.{started_by}
use Rattle.mc_cache.specs.Sip.{hasher_of}

-- the two numbers
abbrev pub hash_key_of : Inside → HashKey
hash_key_of hasher = hasher.key

-- the hasher has taken the two numbers of its key in, and nothing else
abbrev pub IsStarted : Inside → Type 0
IsStarted hasher = hasher_of hasher.start 0 16 ≡ started_by hasher.key
