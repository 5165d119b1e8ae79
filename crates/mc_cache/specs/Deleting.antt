-- What a worker's delete of a version does on the shard of its key.
use Rattle.std.specs.Prelude.{◌≡◌, ℕ, true, List, Result, Ok, Err}
use Rattle.mc_words.specs.declared.arena.Arena.{Arena}
use Rattle.mc_words.specs.declared.hand.Hand.{Hand}
use Rattle.mc_words.specs.hand.Arenas.{setup_of, view}
use Rattle.mc_words.specs.hand.Observers.{hand_number}
use Rattle.mc_items.specs.Keeping.{StoresNothing}
use Rattle.mc_cache.specs.Shards.{GetsAtMost}
use Rattle.mc_cache.specs.declared.working_within.WithinError.{WithinError}
use Rattle.mc_cache.specs.declared.working_within.WithinError.TheVariants as within_error
use Rattle.mc_shard.specs.declared.deleting_version.Deletion.{Deletion}
use Rattle.mc_shard.specs.declared.deleting_version.Deletion.TheVariants.{Deleted, Exists, Missing}
use Rattle.mc_shard.specs.Deleting.{DeletesVersion, FindsNoVersion, FindsOtherVersion, MissesVersion}
use Rattle.mc_shard.specs.Finding.{FindsFull}
use Rattle.mc_shard.specs.Reading.{LeavesSlabs}
use Rattle.mc_shard.specs.Recording.{RecordsDeleteBehind}

-- the hand found the key with this version and stored nothing; then it deleted that item, which the hash still had
abbrev pub DeletesVersionThere : ℕ → List ℕ → ℕ → Arena → Hand → Hand → Type 0
DeletesVersionThere hash key version arena hand now = DeletesVersion (setup_of arena) hash key version hand now × StoresNothing (view hand) (view now)

-- the hand stored nothing: the key had another version than this one, or had this one, and then the hash had another item
abbrev pub KeepsOtherVersion : ℕ → List ℕ → ℕ → Arena → Hand → Hand → Type 0
KeepsOtherVersion hash key version arena hand now = FindsOtherVersion (setup_of arena) hash key version hand now × StoresNothing (view hand) (view now)

-- the hand stored nothing: no item under the hash was of this key, or the key had this version, and then the hash had no item
abbrev pub LacksVersion : ℕ → List ℕ → ℕ → Arena → Hand → Hand → Type 0
LacksVersion hash key version arena hand now = FindsNoVersion (setup_of arena) hash key version hand now × StoresNothing (view hand) (view now)

-- the hand keeps its number, and its own calls got a get of the hash or none, and then a delete of the hash, which had an item
abbrev pub DeletesOnce : ℕ → Arena → Hand → Hand → Type 0
DeletesOnce hash arena hand now = (hand_number now ≡ hand_number hand) × RecordsDeleteBehind (setup_of arena) hash true hand now

-- a delete of the key's value where it has this version, within n tries for the lock
pub record DeletesVersionWithin (tries hash : ℕ) (key : List ℕ) (version : ℕ) (result : Result Deletion WithinError) (arena : Arena) (before now : Hand) : Type 0 where
  pub deletes : result ≡ Ok Deleted → DeletesVersion (setup_of arena) hash key version before now
  pub exists : result ≡ Ok Exists → FindsOtherVersion (setup_of arena) hash key version before now
  pub missing : result ≡ Ok Missing → FindsNoVersion (setup_of arena) hash key version before now
  -- each try for the lock missed, at the look or behind it
  pub held : result ≡ Err within_error.Held → MissesVersion (setup_of arena) tries hash key version before now
  pub full : result ≡ Err (within_error.NoMemory tt) → (between : Hand) × FindsFull (setup_of arena) hash between now
  pub calls : result ≡ Ok Deleted → DeletesOnce hash arena before now
  -- where nothing is deleted, the hand got a get at most
  pub looks : (result ≡ Ok Deleted → ⊥) → GetsAtMost hash arena before now
  pub stores_nothing : StoresNothing (view before) (view now)
  pub slabs : LeavesSlabs (view before) (view now)
