-- What a worker does that gets a value of up to 1 MiB.
use Rattle.std.specs.Prelude.{◌≡◌, ◌≢◌, ◌⊎◌, ℕ, List, ◌++◌, length}
use Rattle.std.specs.List.{concat}
use Rattle.mc_cache.specs.declared.cache.Cache.{Cache}
use Rattle.mc_cache.specs.declared.cache.Worker.{Worker}
use Rattle.mc_update.specs.Updates.{EndsWithoutMemory, FindsNoValue, GetsVersion}
use Rattle.mc_large.specs.Keys.{root_key}
use Rattle.mc_large.specs.Parts.{GetsParts, MissesPart, OnlyGetsParts}
use Rattle.mc_large.specs.Roots.{IsLargeRoot, IsNoRoot, small_root}

-- the worker got these bytes under a root's key, and did nothing else
abbrev pub GetsRootAt : Cache → List ℕ → List ℕ → Worker → Worker → Type 0
GetsRootAt cache place root before now = (version : ℕ) × GetsVersion cache place root version before now

-- the worker got these bytes as the key's root, and did nothing else
abbrev pub GetsRoot : Cache → List ℕ → List ℕ → Worker → Worker → Type 0
GetsRoot cache key root before now = GetsRootAt cache (root_key key) root before now

-- the worker got the root of a small value, which was added behind the old bytes
pub record GetsSmall (cache : Cache) (key old new : List ℕ) (before now : Worker) : Type 0 where
  pub value : List ℕ
  pub root : GetsRoot cache key (small_root value) before now
  pub added : new ≡ old ++ value

-- the bytes begin with the old ones
abbrev pub BeginsWith : List ℕ → List ℕ → Type 0
BeginsWith old new = (added : List ℕ) × (new ≡ old ++ added)

-- the worker got the parts of these versions, whose pieces were added behind the old bytes
pub record AddsParts (cache : Cache) (key versions old new : List ℕ) (before now : Worker) : Type 0 where
  pub pieces : List (List ℕ)
  pub gets : GetsParts cache key 0 versions pieces before now
  pub added : new ≡ old ++ concat pieces

-- the same, and the pieces have this length together
pub record AddsWhole (cache : Cache) (key versions : List ℕ) (len : ℕ) (old new : List ℕ) (before now : Worker) : Type 0 where
  pub adds : AddsParts cache key versions old new before now
  pub whole : length (concat adds.pieces) ≡ len

-- the worker did nothing but a get of each of some parts, the first ones
abbrev pub OnlyGetsSomeParts : Cache → List ℕ → Worker → Worker → Type 0
OnlyGetsSomeParts cache key before now = (count : ℕ) × OnlyGetsParts count cache key 0 before now

-- the worker got a root with versions, and then of each version, in order, the part that has it; the pieces of these parts, which have the root's
-- length together, were added behind the old bytes
pub record GetsWhole (cache : Cache) (key old new : List ℕ) (before now : Worker) : Type 0 where
  pub root : List ℕ
  pub len : ℕ
  pub versions : List ℕ
  pub is_root : IsLargeRoot root len versions
  pub looked : Worker
  pub gets_root : GetsRoot cache key root before looked
  pub parts : AddsWhole cache key versions len old new looked now

-- the worker got a value: out of its root, or of its parts
abbrev pub GetsLarge : Cache → List ℕ → List ℕ → List ℕ → Worker → Worker → Type 0
GetsLarge cache key old new before now = GetsSmall cache key old new before now ⊎ GetsWhole cache key old new before now

-- the worker got bytes under the root's key that are no root
pub record FindsNoRoot (cache : Cache) (key : List ℕ) (before now : Worker) : Type 0 where
  pub bytes : List ℕ
  pub gets : GetsRoot cache key bytes before now
  pub none : IsNoRoot bytes

-- the parts of a root's versions are there, and have another length together than the root has
pub record FindsOtherLength (cache : Cache) (key versions : List ℕ) (len : ℕ) (before now : Worker) : Type 0 where
  pub pieces : List (List ℕ)
  pub parts : GetsParts cache key 0 versions pieces before now
  pub differs : length (concat pieces) ≢ len

-- a part of these versions is missing or has another version, or all are there and have another length together
abbrev pub MissesParts : Cache → List ℕ → List ℕ → ℕ → Worker → Worker → Type 0
MissesParts cache key versions len before now = MissesPart cache key versions before now ⊎ FindsOtherLength cache key versions len before now

-- the worker got a root with versions, and then not the whole value: a part is missing or has another version, or the length differs
pub record MissesWhole (cache : Cache) (key : List ℕ) (before now : Worker) : Type 0 where
  pub root : List ℕ
  pub len : ℕ
  pub versions : List ℕ
  pub is_root : IsLargeRoot root len versions
  pub looked : Worker
  pub gets_root : GetsRoot cache key root before looked
  pub misses : MissesParts cache key versions len looked now

-- why the worker got no value: the key has no root, or bytes that are none, or the root's parts aren't all there
abbrev pub MissesLarge : Cache → List ℕ → Worker → Worker → Type 0
MissesLarge cache key before now = FindsNoValue cache (root_key key) before now ⊎ FindsNoRoot cache key before now ⊎ MissesWhole cache key before now

-- the worker did nothing but a get of the root, and of some parts
pub record OnlyGetsLarge (cache : Cache) (key : List ℕ) (before now : Worker) : Type 0 where
  pub looked : Worker
  pub root : EndsWithoutMemory cache (root_key key) before looked
  pub parts : OnlyGetsSomeParts cache key looked now
