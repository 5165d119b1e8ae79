-- What a worker does that sets a value of up to 1 MiB.
use Rattle.std.specs.Prelude.{◌≡◌, ◌⊎◌, ℕ, List, length}
use Rattle.mc_items.specs.declared.setting.SetError.{SetError}
use Rattle.mc_items.specs.declared.setting.SetError.TheVariants.{NoMemory}
use Rattle.mc_cache.specs.declared.cache.Cache.{Cache}
use Rattle.mc_cache.specs.declared.cache.Worker.{Worker}
use Rattle.mc_cache.specs.Belonging.{ActsOnKey, DeletesAnyOf, RefusesAndDeletes, hash_in}
use Rattle.mc_cache.specs.Shards.{DeletesAtMost, StoresValue, TouchesNothing}
use Rattle.mc_large.specs.Keys.{root_key}
use Rattle.mc_large.specs.Parts.{RefusesPieces, StoresPieces}
use Rattle.mc_large.specs.Rooms.{FitsInParts, FitsInRoot, LacksRoot}
use Rattle.mc_large.specs.Roots.{IsLargeRoot, large_root, small_root}

-- the worker stored these bytes as the root under this key
abbrev pub StoresRoot : Cache → List ℕ → List ℕ → Worker → Worker → Type 0
StoresRoot cache place root before now = ActsOnKey cache place (StoresValue (hash_in cache place) place root) before now

-- the worker deleted the root under this key, if there is one, and did nothing else
pub record DropsRoot (cache : Cache) (place : List ℕ) (before now : Worker) : Type 0 where
  pub deletes : DeletesAnyOf cache place before now
  pub calls : ActsOnKey cache place (DeletesAtMost (hash_in cache place)) before now
  pub untouched : ActsOnKey cache place TouchesNothing before now

-- the store of these bytes as the root under this key was refused, or there was no memory for them; and then the old root was deleted
abbrev pub RefusesRoot : Cache → List ℕ → List ℕ → SetError → Worker → Worker → Type 0
RefusesRoot cache place root error before now = RefusesAndDeletes cache place root error before now ⊎ ((error ≡ NoMemory tt) × DropsRoot cache place before now)

-- the worker stored the pieces of the value as the key's parts, and then their root under this key
pub record StoresWhole (cache : Cache) (key place : List ℕ) (room : ℕ) (value : List ℕ) (before now : Worker) : Type 0 where
  pub versions : List ℕ
  pub between : Worker
  pub parts : StoresPieces cache key room value versions before between
  pub root : List ℕ
  pub is_root : IsLargeRoot root (length value) versions
  pub stores : StoresRoot cache place root between now

-- a piece was refused, and then the old root under this key was deleted
pub record RefusesSomePiece (cache : Cache) (key place : List ℕ) (room : ℕ) (value : List ℕ) (error : SetError) (before now : Worker) : Type 0 where
  pub between : Worker
  pub parts : RefusesPieces cache key room value error before between
  pub drops : DropsRoot cache place between now

-- the pieces of the value were stored as parts, and then their root was refused
pub record RefusesWholeRoot (cache : Cache) (key place : List ℕ) (room : ℕ) (value : List ℕ) (error : SetError) (before now : Worker) : Type 0 where
  pub versions : List ℕ
  pub between : Worker
  pub parts : StoresPieces cache key room value versions before between
  pub root : RefusesRoot cache place (large_root (length value) versions) error between now

-- a piece was refused, or the root behind all pieces
abbrev pub RefusesWhole : Cache → List ℕ → List ℕ → ℕ → List ℕ → SetError → Worker → Worker → Type 0
RefusesWhole cache key place room value error before now = RefusesSomePiece cache key place room value error before now ⊎ RefusesWholeRoot cache key place room value error before now

-- the value fits in its root, and the worker stored that
pub record SetsInRoot (cache : Cache) (key value : List ℕ) (before now : Worker) : Type 0 where
  pub fits : FitsInRoot cache (length key) (length value)
  pub root : StoresRoot cache (root_key key) (small_root value) before now

-- the value fits in parts alone, and the worker stored these and their root
pub record SetsInParts (cache : Cache) (key value : List ℕ) (before now : Worker) : Type 0 where
  pub large : LacksRoot cache (length key) (length value)
  pub room : ℕ
  pub fits : FitsInParts cache (length key) (length value) room
  pub whole : StoresWhole cache key (root_key key) room value before now

-- the worker set the value: in its root, or in parts
abbrev pub SetsLarge : Cache → List ℕ → List ℕ → Worker → Worker → Type 0
SetsLarge cache key value before now = SetsInRoot cache key value before now ⊎ SetsInParts cache key value before now

-- the value fits in its root, which was refused
pub record RefusesInRoot (cache : Cache) (key value : List ℕ) (error : SetError) (before now : Worker) : Type 0 where
  pub fits : FitsInRoot cache (length key) (length value)
  pub root : RefusesRoot cache (root_key key) (small_root value) error before now

-- the value fits in parts alone, and a part or the root was refused
pub record RefusesInParts (cache : Cache) (key value : List ℕ) (error : SetError) (before now : Worker) : Type 0 where
  pub large : LacksRoot cache (length key) (length value)
  pub room : ℕ
  pub fits : FitsInParts cache (length key) (length value) room
  pub whole : RefusesWhole cache key (root_key key) room value error before now

-- a part or the root was refused, or there was no memory, and the key's old root was deleted
abbrev pub RefusesLarge : Cache → List ℕ → List ℕ → SetError → Worker → Worker → Type 0
RefusesLarge cache key value error before now = RefusesInRoot cache key value error before now ⊎ RefusesInParts cache key value error before now
