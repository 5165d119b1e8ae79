-- What a worker stored last under a key, and what it may find there: this value, or one that another worker stored.
use Rattle.std.specs.Prelude.{◌≡◌, ◌⊎◌, ◌++◌, ℕ, List, slice_get, Some}
use Rattle.mc_packing.specs.Packing.{AreBytes}
use Rattle.mc_words.specs.declared.arena.Arena.{Arena}
use Rattle.mc_words.specs.declared.hand.Hand.{Hand}
use Rattle.mc_words.specs.hand.Arenas.{setup_of}
use Rattle.mc_cache.specs.declared.cache.Cache.{Cache}
use Rattle.mc_cache.specs.declared.cache.Worker.{Worker}
use Rattle.mc_cache.specs.Belonging.{ActsOnKey, BelongsTo, IsUnusedWorker, hash_in, shard_in}
use Rattle.mc_cache.specs.Shards.{GetsAtMost, ReadsValue, StoresNoMore, StoresValue}
use Rattle.mc_shard.specs.Newest.{HasStoredLast, WasStoredByOther}

-- the worker's hand of the key's shard stored this value under the key, and no call of this worker came after this that set, deleted or
-- evicted the key's hash
pub record HasSetLast (cache : Cache) (key value : List ℕ) (worker : Worker) : Type 0 where
  pub arena : Arena
  pub is_arena : slice_get cache.arenas.items (shard_in cache key) ≡ Some arena
  pub hand : Hand
  pub is_hand : slice_get worker.hands.items (shard_in cache key) ≡ Some hand
  pub last : HasStoredLast (setup_of arena) (hash_in cache key) key value hand

-- the hand found the key with this value, which another hand stored
abbrev pub ReadsValueOfOther : ℕ → List ℕ → List ℕ → Arena → Hand → Hand → Type 0
ReadsValueOfOther hash key value arena hand now = ReadsValue hash key value arena hand now × WasStoredByOther (setup_of arena) hash key value hand

-- the worker found the key with a value that another worker stored, which was added behind the old bytes
abbrev pub GivesValueOfOther : Cache → List ℕ → List ℕ → List ℕ → Worker → Worker → Type 0
GivesValueOfOther cache key old new before now = (value : List ℕ) × ActsOnKey cache key (ReadsValueOfOther (hash_in cache key) key value) before now × (new ≡ old ++ value)

-- *a value that a worker stored under a key is the last that it stored there*
abbrev pub SetsAreLast : Type 0
SetsAreLast = (cache : Cache) (key value : List ℕ) (before now : Worker) → BelongsTo cache now → ActsOnKey cache key (StoresValue (hash_in cache key) key value) before now → HasSetLast cache key value now

-- *a get leaves what the worker stored last under the key*
abbrev pub GetsKeepLast : Type 0
GetsKeepLast =
    (cache : Cache) (key value : List ℕ) (before now : Worker) → HasSetLast cache key value before → ActsOnKey cache key (GetsAtMost (hash_in cache key)) before now → ActsOnKey cache key StoresNoMore before now
    → HasSetLast cache key value now

-- *a worker finds under a key what it stored there last, or what another worker stored there*
abbrev pub LastIsFound : Type 0
LastIsFound =
    (cache : Cache) (key value found : List ℕ) (before now : Worker) → AreBytes value → AreBytes found → BelongsTo cache before → HasSetLast cache key value before
    → ActsOnKey cache key (ReadsValue (hash_in cache key) key found) before now → (found ≡ value) ⊎ ActsOnKey cache key (ReadsValueOfOther (hash_in cache key) key found) before now

-- *a worker that did nothing yet finds only what other workers stored*
abbrev pub UnusedFindOthers : Type 0
UnusedFindOthers =
    (cache : Cache) (key found : List ℕ) (before now : Worker) → IsUnusedWorker cache before → ActsOnKey cache key (ReadsValue (hash_in cache key) key found) before now
    → ActsOnKey cache key (ReadsValueOfOther (hash_in cache key) key found) before now
