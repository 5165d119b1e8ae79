-- Which values a cache has chunks for.
use Rattle.std.specs.Prelude.{◌≡◌, ℕ, false, IsSomeAnd}
use Rattle.mc_cache.specs.declared.cache.Cache.{Cache}
use Rattle.mc_cache.specs.Observers.{classes_of}
use Rattle.mc_shard.specs.Sizes.{IsMostBeside, LacksClassBeside, has_class_for}

-- no class of the cache has chunks for an item of a key and a value of these lengths
abbrev pub LacksClassIn : Cache → ℕ → ℕ → Type 0
LacksClassIn cache key_len value_len = IsSomeAnd (classes_of cache) (λ classes. has_class_for classes key_len value_len ≡ false)

-- beside a key of this length the cache has a class for a value just where the value has at most so many bytes
abbrev pub IsMostBesideIn : Cache → ℕ → ℕ → Type 0
IsMostBesideIn cache key_len most = IsSomeAnd (classes_of cache) (λ classes. IsMostBeside classes key_len most)

-- beside a key of this length the cache has a class for no value
abbrev pub LacksClassBesideIn : Cache → ℕ → Type 0
LacksClassBesideIn cache key_len = IsSomeAnd (classes_of cache) (λ classes. LacksClassBeside classes key_len)
