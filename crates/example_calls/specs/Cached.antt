-- What callers of a cache of bytes did and found.
use Rattle.std.specs.Prelude.{◌⊎◌, ◌≡◌, ◌++◌, ℕ, ◌∷◌, [], List}
use Rattle.mc_words.specs.hand.Arenas.{setup_of}
use Rattle.mc_words.specs.declared.arena.Arena.{Arena}
use Rattle.mc_words.specs.declared.hand.Hand.{Hand}
use Rattle.mc_items.specs.declared.comparing.Expected.TheVariants.{Item, Something}
use Rattle.mc_cache.specs.Conditional.{StoresBehindLook}
use Rattle.mc_cache.specs.Deleting.{DeletesVersionThere}
use Rattle.mc_cache.specs.Versions.{ReadsVersion}
use Rattle.mc_shard.specs.Conditions.{FindsVersion}
use Rattle.mc_shard.specs.Finding.{FindsKey}
use Rattle.mc_cache.specs.declared.cache.Cache.{Cache}
use Rattle.mc_cache.specs.declared.cache.Worker.{Worker}
use Rattle.mc_cache.specs.declared.stats.CacheStats.{CacheStats}
use Rattle.mc_cache.specs.declared.tended.Tended.{Tended}
use Rattle.mc_cache.specs.declared.tending.Tender.{Tender}
use Rattle.mc_cache.specs.Belonging.{ActsOnKey, BelongsTo, GivesValueOf, hash_in}
use Rattle.mc_cache.specs.Newest.{GivesValueOfOther}
use Rattle.mc_cache.specs.Stats.{CountsCache, SetsModes}
use Rattle.mc_cache.specs.Tending.{TendsCache}

-- the bytes of the key "city"
abbrev pub city_key : List ℕ
city_key = 99 ∷ 105 ∷ 116 ∷ 121 ∷ []

-- the bytes are none, or the value that a worker of some cache found under the key
abbrev pub AreFoundIn : List ℕ → List ℕ → Type 0
AreFoundIn key bytes = (bytes ≡ []) ⊎ ((cache : Cache) × (before : Worker) × (now : Worker) × BelongsTo cache now × GivesValueOf cache key [] bytes before now)

-- the bytes are none, or the value under the key that one worker of some cache found and another stored
abbrev pub AreStoredByOther : List ℕ → List ℕ → Type 0
AreStoredByOther key bytes = (bytes ≡ []) ⊎ ((cache : Cache) × (before : Worker) × (now : Worker) × BelongsTo cache now × GivesValueOfOther cache key [] bytes before now)

-- the tender set mode 2 on each shard, then did a window of each, and then counted what the classes have
pub record TendsAndTells (cache : Cache) (before now : Tender) (stats : CacheStats) : Type 0 where
  pub set : Tender
  pub modes : SetsModes 2 before set
  pub tended : Tender
  pub done : Tended
  pub tends : TendsCache cache done set tended
  pub counts : CountsCache cache stats tended now

-- the hand stored the value under the key in place of the value of this version, which the key had still
abbrev pub StoresOverVersion : ℕ → List ℕ → List ℕ → ℕ → ℕ → Arena → Hand → Hand → Type 0
StoresOverVersion hash key value version stamp arena before now =
    ((old : List ℕ) × FindsVersion (setup_of arena) hash key old version before) × StoresBehindLook (Item version) hash stamp key value before now

-- the worker found the key with a value, which was added behind the old bytes, and stored another one with this stamp in place of that very
-- value
pub record Exchanges (cache : Cache) (key value old new : List ℕ) (stamp : ℕ) (before now : Worker) : Type 0 where
  pub found : List ℕ
  pub added : new ≡ old ++ found
  pub version : ℕ
  pub between : Worker
  pub finds : ActsOnKey cache key (ReadsVersion (hash_in cache key) key found version) before between
  pub stores : ActsOnKey cache key (StoresOverVersion (hash_in cache key) key value version stamp) between now

-- the worker found the key with a value, which was added behind the old bytes, and deleted that very value, which the key had still
pub record DeletesFound (cache : Cache) (key old new : List ℕ) (before now : Worker) : Type 0 where
  pub found : List ℕ
  pub added : new ≡ old ++ found
  pub version : ℕ
  pub between : Worker
  pub finds : ActsOnKey cache key (ReadsVersion (hash_in cache key) key found version) before between
  pub deletes : ActsOnKey cache key (DeletesVersionThere (hash_in cache key) key version) between now

-- the hand saw that the key has a value, and then stored another one under the key, whose hash had an item still
abbrev pub StoresOverValue : ℕ → List ℕ → List ℕ → Arena → Hand → Hand → Type 0
StoresOverValue hash key value arena before now =
    FindsKey (setup_of arena) hash key before × ((stamp : ℕ) × StoresBehindLook Something hash stamp key value before now)
