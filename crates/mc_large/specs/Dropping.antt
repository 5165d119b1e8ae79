-- What a worker does that deletes a value of up to 1 MiB.
use Rattle.std.specs.Prelude.{◌≡◌, ◌⊎◌, ℕ, Bool, true, false, List, []}
use Rattle.mc_cache.specs.declared.cache.Cache.{Cache}
use Rattle.mc_cache.specs.declared.cache.Worker.{Worker}
use Rattle.mc_cache.specs.Belonging.{ActsOnKey, DeletesNoneOf, hash_in}
use Rattle.mc_cache.specs.Shards.{DeletesAtMost, DeletesThere, LooksInVain, TouchesNothing}
use Rattle.mc_update.specs.Updates.{EndsWithoutMemory}
use Rattle.mc_large.specs.Getting.{GetsRoot}
use Rattle.mc_large.specs.Keys.{root_key}
use Rattle.mc_large.specs.Parts.{DropsParts}
use Rattle.mc_large.specs.Roots.{IsLargeRoot, IsNoRoot, small_root}

-- the root has these versions; the root of a small value, and bytes that are no root, have none
abbrev pub HasVersions : List ℕ → List ℕ → Type 0
HasVersions root versions = ((len : ℕ) × IsLargeRoot root len versions) ⊎ (((value : List ℕ) × (root ≡ small_root value) × (versions ≡ [])) ⊎ (IsNoRoot root × (versions ≡ [])))

-- the worker deleted what is under a root's key, or found nothing there, and did nothing else
pub record DeletesRoot (cache : Cache) (place : List ℕ) (there : Bool) (before now : Worker) : Type 0 where
  pub deleted : there ≡ true → ActsOnKey cache place (DeletesThere (hash_in cache place) place true) before now
  pub gone : there ≡ false → DeletesNoneOf cache place before now
  pub calls : ActsOnKey cache place (DeletesAtMost (hash_in cache place)) before now
  pub untouched : ActsOnKey cache place TouchesNothing before now

-- the worker got the key's root and deleted it, if the key still had one; and then each part that has the root's version of it
pub record DeletesLarge (cache : Cache) (key : List ℕ) (there : Bool) (before now : Worker) : Type 0 where
  pub root : List ℕ
  pub versions : List ℕ
  pub has : HasVersions root versions
  pub looked : Worker
  pub gets_root : GetsRoot cache key root before looked
  pub between : Worker
  pub deletes : DeletesRoot cache (root_key key) there looked between
  pub parts : DropsParts cache key 0 versions between now

-- the worker found what is under a root's key, and was refused its delete
pub record FailsAtRoot (cache : Cache) (place : List ℕ) (before now : Worker) : Type 0 where
  pub looks : ActsOnKey cache place (LooksInVain (hash_in cache place)) before now
  pub calls : ActsOnKey cache place (DeletesAtMost (hash_in cache place)) before now
  pub untouched : ActsOnKey cache place TouchesNothing before now

-- the worker did nothing but a get of the root; or it got the root, and was refused its delete
abbrev pub FailsToDelete : Cache → List ℕ → Worker → Worker → Type 0
FailsToDelete cache key before now =
    EndsWithoutMemory cache (root_key key) before now ⊎ ((looked : Worker) × EndsWithoutMemory cache (root_key key) before looked × FailsAtRoot cache (root_key key) looked now)
