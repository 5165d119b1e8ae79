-- Which values a cache has room for: in a root, or in parts with a root.
use Rattle.std.specs.Prelude.{◌≡◌, ◌⊎◌, ◌≤◌, ◌<◌, ℕ, ◌+◌, ◌*◌, true, IsSomeAnd, Option, None, Some}
use Rattle.mc_cache.specs.declared.cache.Cache.{Cache}
use Rattle.mc_cache.specs.Observers.{classes_of}
use Rattle.mc_cache.specs.Sizes.{IsMostBesideIn, LacksClassBesideIn, LacksClassIn}
use Rattle.mc_shard.specs.Sizes.{has_class_for}
use Rattle.mc_large.specs.Pieces.{part_count}
use Rattle.mc_large.specs.Roots.{most_large_value}
use Rattle.mc_large.specs.declared.storage.Storage.{Storage}
use Rattle.mc_large.specs.declared.storage.Storage.TheVariants.{InRoot, InParts}

-- some class of the cache has chunks for an item of a key and a value of these lengths
abbrev pub HasClassIn : Cache → ℕ → ℕ → Type 0
HasClassIn cache key_len value_len = IsSomeAnd (classes_of cache) (λ classes. has_class_for classes key_len value_len ≡ true)

-- beside a key of this length the root of a value of this length has a class, with the whole value in it
abbrev pub FitsInRoot : Cache → ℕ → ℕ → Type 0
FitsInRoot cache key_len value_len = HasClassIn cache (key_len + 1) (value_len + 1)

-- the same root has no class
abbrev pub LacksRoot : Cache → ℕ → ℕ → Type 0
LacksRoot cache key_len value_len = LacksClassIn cache (key_len + 1) (value_len + 1)

-- the bytes of the root of a value in n parts
abbrev pub large_root_len : ℕ → ℕ
large_root_len count = 9 + 8 * count

-- a part has at most so many bytes, and the root of a value of this length in such parts has a class
pub record FitsInParts (cache : Cache) (key_len value_len room : ℕ) : Type 0 where
  pub most : IsMostBesideIn cache (key_len + 5) room
  pub some : 1 ≤ room
  pub root : HasClassIn cache (key_len + 1) (large_root_len (part_count room value_len))

-- no part has a byte, or the root of a value of this length in parts has no class
abbrev pub LacksParts : Cache → ℕ → ℕ → Type 0
LacksParts cache key_len value_len =
    LacksClassBesideIn cache (key_len + 5)
    ⊎ ((room : ℕ) × IsMostBesideIn cache (key_len + 5) room × ((room ≡ 0) ⊎ LacksClassIn cache (key_len + 1) (large_root_len (part_count room value_len))))

-- a value of this length is larger than 1 MiB, or fits neither in a root nor in parts
abbrev pub LacksRoomIn : Cache → ℕ → ℕ → Type 0
LacksRoomIn cache key_len value_len = (most_large_value < value_len) ⊎ (LacksRoot cache key_len value_len × LacksParts cache key_len value_len)

-- where a value of this length is stored: in its root, where it fits there; else in parts of n bytes; or nowhere
abbrev pub IsStorageOf : Cache → ℕ → ℕ → Option Storage → Type 0
IsStorageOf cache key_len value_len (Some InRoot) = (value_len ≤ most_large_value) × FitsInRoot cache key_len value_len
IsStorageOf cache key_len value_len (Some (InParts room)) = (value_len ≤ most_large_value) × LacksRoot cache key_len value_len × FitsInParts cache key_len value_len room
IsStorageOf cache key_len value_len None = LacksRoomIn cache key_len value_len
