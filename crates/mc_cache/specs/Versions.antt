-- What a worker's get with a version does on the shard of its key.
use Rattle.std.specs.Prelude.{◌≡◌, ◌⊎◌, ℕ, List, ◌++◌, Option, None, Some, Result, Ok, Err}
use Rattle.mc_words.specs.declared.arena.Arena.{Arena}
use Rattle.mc_words.specs.declared.hand.Hand.{Hand}
use Rattle.mc_words.specs.hand.Arenas.{setup_of, view}
use Rattle.mc_items.specs.Keeping.{StoresNothing}
use Rattle.mc_cache.specs.declared.cache.Cache.{Cache}
use Rattle.mc_cache.specs.declared.cache.Worker.{Worker}
use Rattle.mc_cache.specs.declared.working.TryGetError.{TryGetError}
use Rattle.mc_cache.specs.declared.working.TryGetError.TheVariants as try_error
use Rattle.mc_cache.specs.Belonging.{ActsOnKey, hash_in}
use Rattle.mc_cache.specs.Shards.{GetsAtMost}
use Rattle.mc_shard.specs.Conditions.{FindsVersion, ReturnsVersion}
use Rattle.mc_shard.specs.Finding.{FindsFull, FindsOtherKey, FindsSome}
use Rattle.mc_shard.specs.Reading.{LeavesSlabs}
use Rattle.mc_shard.specs.Within.{MissesLock}

-- the hand found the key with this value of this version, and stored nothing
abbrev pub ReadsVersion : ℕ → List ℕ → List ℕ → ℕ → Arena → Hand → Hand → Type 0
ReadsVersion hash key value version arena hand now = FindsVersion (setup_of arena) hash key value version hand × StoresNothing (view hand) (view now)

-- the worker found the key with a value of this version, which was added behind the old bytes
abbrev pub GivesVersionOf : Cache → List ℕ → ℕ → List ℕ → List ℕ → Worker → Worker → Type 0
GivesVersionOf cache key version old new before now =
    (value : List ℕ) × ActsOnKey cache key (ReadsVersion (hash_in cache key) key value version) before now × (new ≡ old ++ value)

-- a get of the key with its version within n tries, whose value comes behind the old bytes
pub record GetsVersionWithin (tries hash : ℕ) (key old new : List ℕ) (result : Result (Option ℕ) TryGetError) (arena : Arena) (before now : Hand) : Type 0 where
  -- the key's value was added behind the bytes
  pub value : (version : ℕ) → result ≡ Ok (Some version) → ReturnsVersion (setup_of arena) hash key version before old new
  -- no item is under the hash, or one of another key
  pub none : result ≡ Ok None → FindsOtherKey (setup_of arena) hash key before
  -- each try for the lock missed
  pub held : result ≡ Err try_error.Held → MissesLock (setup_of arena) tries hash before now
  -- the history had no room for a call, or an item was found and there was no memory for its bytes
  pub full : result ≡ Err (try_error.NoMemory tt) → FindsFull (setup_of arena) hash before now ⊎ FindsSome (setup_of arena) hash before
  pub calls : GetsAtMost hash arena before now
  pub stores_nothing : StoresNothing (view before) (view now)
  pub slabs : LeavesSlabs (view before) (view now)
