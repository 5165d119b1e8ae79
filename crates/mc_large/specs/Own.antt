-- What a worker set last under a key, and what it gets there.
use Rattle.std.specs.Prelude.{◌≡◌, ◌⊎◌, ℕ, suc, List, [], ◌∷◌, ◌++◌, length, slice_get, Some, Contains}
use Rattle.std.specs.List.{concat}
use Rattle.mc_packing.specs.Packing.{AreBytes, packed_item}
use Rattle.mc_words.specs.declared.arena.Arena.{Arena}
use Rattle.mc_words.specs.declared.hand.Hand.{Hand}
use Rattle.mc_words.specs.hand.Arenas.{setup_of}
use Rattle.mc_words.specs.item.Items.{item_with}
use Rattle.mc_shard.specs.Hands.{WereStored, items_stored_by}
use Rattle.mc_cache.specs.declared.cache.Cache.{Cache}
use Rattle.mc_cache.specs.declared.cache.Worker.{Worker}
use Rattle.mc_cache.specs.Belonging.{ActsOnKey, BelongsTo, hash_in, shard_in}
use Rattle.mc_cache.specs.Newest.{HasSetLast, ReadsValueOfOther}
use Rattle.mc_update.specs.Updates.{GetsVersion}
use Rattle.mc_large.specs.Getting.{GetsLarge, OnlyGetsLarge}
use Rattle.mc_large.specs.Keys.{part_key, root_key}
use Rattle.mc_large.specs.Roots.{IsLargeRoot, small_root}
use Rattle.mc_large.specs.Setting.{SetsLarge}

-- the worker's hand of the part's shard stored this piece under the part's key, and the item got this version
pub record HasStoredPiece (cache : Cache) (part piece : List ℕ) (version : ℕ) (worker : Worker) : Type 0 where
  pub hand : Hand
  pub is_hand : slice_get worker.hands.items (shard_in cache part) ≡ Some hand
  pub among : Contains (items_stored_by hand) (record { stamp = version; words = item_with (hash_in cache part) version (packed_item part piece) })

-- the worker stored each of these pieces with its version, as the parts from this number on
abbrev pub HasStoredPieces : Cache → List ℕ → ℕ → List (List ℕ) → List ℕ → Worker → Type 0
HasStoredPieces cache key number [] [] worker = Unit {0}
HasStoredPieces cache key number [] (version ∷ versions) worker = ⊥
HasStoredPieces cache key number (piece ∷ pieces) [] worker = ⊥
HasStoredPieces cache key number (piece ∷ pieces) (version ∷ versions) worker =
    HasStoredPiece cache (part_key key number) piece version worker × HasStoredPieces cache key (suc number) pieces versions worker

-- the last root that the worker stored of the key has the versions with which it stored the pieces of this value
pub record HasSetParts (cache : Cache) (key value : List ℕ) (worker : Worker) : Type 0 where
  pub pieces : List (List ℕ)
  pub versions : List ℕ
  pub together : concat pieces ≡ value
  pub root : List ℕ
  pub is_root : IsLargeRoot root (length value) versions
  pub last : HasSetLast cache (root_key key) root worker
  pub parts : HasStoredPieces cache key 0 pieces versions worker

-- the last root that the worker stored of the key is of this value: it has the value, or the versions of its parts
abbrev pub HasSetLarge : Cache → List ℕ → List ℕ → Worker → Type 0
HasSetLarge cache key value worker = HasSetLast cache (root_key key) (small_root value) worker ⊎ HasSetParts cache key value worker

-- the worker found a root of the key that another worker stored
pub record FindsRootOfOther (cache : Cache) (key : List ℕ) (before : Worker) : Type 0 where
  pub root : List ℕ
  pub looked : Worker
  pub finds : ActsOnKey cache (root_key key) (ReadsValueOfOther (hash_in cache (root_key key)) (root_key key) root) before looked

-- the worker's hand of the part's shard saw that some hand stored this piece under the part's key, and that the item got this version
pub record SeesStoredPiece (cache : Cache) (part piece : List ℕ) (version : ℕ) (worker : Worker) : Type 0 where
  pub arena : Arena
  pub is_arena : slice_get cache.arenas.items (shard_in cache part) ≡ Some arena
  pub hand : Hand
  pub is_hand : slice_get worker.hands.items (shard_in cache part) ≡ Some hand
  pub stored : WereStored (setup_of arena) (items_stored_by hand) version (item_with (hash_in cache part) version (packed_item part piece))

-- *a part that is got with a version was stored with it, by whatever worker*
abbrev pub GotPartsWereStored : Type 0
GotPartsWereStored =
    (cache : Cache) (key : List ℕ) (number : ℕ) (piece : List ℕ) (version : ℕ) (before now : Worker) → GetsVersion cache (part_key key number) piece version before now → SeesStoredPiece cache (part_key key number) piece version before

-- *a value that a worker set under a key is the last that it set there*
abbrev pub LargeSetsAreLast : Type 0
LargeSetsAreLast = (cache : Cache) (key value : List ℕ) (before now : Worker) → BelongsTo cache now → SetsLarge cache key value before now → HasSetLarge cache key value now

-- *a get of any key leaves what the worker set last under a key*
abbrev pub LargeGetsKeepLast : Type 0
LargeGetsKeepLast = (cache : Cache) (key other value : List ℕ) (before now : Worker) → HasSetLarge cache key value before → OnlyGetsLarge cache other before now → HasSetLarge cache key value now

-- *a worker gets under a key the whole value that it set there last, or finds a root there that another worker stored*
abbrev pub LargeLastIsFound : Type 0
LargeLastIsFound =
    (cache : Cache) (key value old new : List ℕ) (before now : Worker) → AreBytes value → AreBytes new → BelongsTo cache before → HasSetLarge cache key value before → GetsLarge cache key old new before now
    → (new ≡ old ++ value) ⊎ FindsRootOfOther cache key before
