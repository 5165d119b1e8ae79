-- Deletes of a version: the key's item goes only where it has the version.
use Rattle.std.specs.Prelude.{◌≢◌, ◌⊎◌, ◌==◌, if◌then◌else◌, ⊤, ℕ, List, Option, None, Some, Result, Ok, Err}
use Rattle.mc_words.specs.declared.hand.Hand.{Hand}
use Rattle.mc_words.specs.hand.View.{Setup}
use Rattle.mc_items.specs.Deleting.{DeletesItemOf, FindsOtherItem}
use Rattle.mc_items.specs.Within.{MissesKeyEachTime}
use Rattle.mc_items.specs.declared.deleting_where.CompareDeleteError.{CompareDeleteError}
use Rattle.mc_items.specs.declared.deleting_where.CompareDeleteError.TheVariants as compare
use Rattle.mc_items.specs.declared.within.deleting_where.CompareDeleteWithinError.{CompareDeleteWithinError}
use Rattle.mc_items.specs.declared.within.deleting_where.CompareDeleteWithinError.TheVariants as compare_within
use Rattle.mc_items.specs.declared.within.error.WithinError.{WithinError}
use Rattle.mc_items.specs.declared.within.error.WithinError.TheVariants as within_error
use Rattle.mc_shard.specs.declared.deleting_version.Deletion.{Deletion}
use Rattle.mc_shard.specs.declared.deleting_version.Deletion.TheVariants.{Deleted, Exists, Missing}
use Rattle.mc_shard.specs.declared.looking.Seen.{Seen}
use Rattle.mc_shard.specs.declared.looking.Seen.TheVariants.{Nothing, OtherKey, Key}
use Rattle.mc_shard.specs.Conditions.{FindsVersion, LooksUnder}
use Rattle.mc_shard.specs.Finding.{FindsOtherKey}
use Rattle.mc_shard.specs.Within.{MissesLock}

-- what a delete of this version returns at once where this was seen under the hash; none where the look saw the version
abbrev pub deletion_at_look : Seen → ℕ → Option Deletion
deletion_at_look Nothing version = Some Missing
deletion_at_look (OtherKey stamp) version = Some Missing
deletion_at_look (Key stamp) version = if stamp == version then None else Some Exists

-- what a delete of a version returns whose delete of the item returned this
abbrev pub deletion_of : Result (Unit {0}) CompareDeleteError → Result Deletion ⊤
deletion_of (Ok done) = Ok Deleted
deletion_of (Err (compare.NoMemory refused)) = Err tt
deletion_of (Err (compare.Differs (Some stamp))) = Ok Exists
deletion_of (Err (compare.Differs None)) = Ok Missing

-- what a delete of a version within n tries returns whose delete of the item returned this
abbrev pub deletion_within : Result (Unit {0}) CompareDeleteWithinError → Result Deletion WithinError
deletion_within (Ok done) = Ok Deleted
deletion_within (Err (compare_within.NoMemory refused)) = Err (within_error.NoMemory tt)
deletion_within (Err (compare_within.Differs (Some stamp))) = Ok Exists
deletion_within (Err (compare_within.Differs None)) = Ok Missing
deletion_within (Err compare_within.Held) = Err within_error.Held

-- the item under the hash was of this key and had this version: a look found it, and then came what was done
pub record FindsVersionFirst (setup : Setup) (hash : ℕ) (key : List ℕ) (version : ℕ) (before between : Hand) : Type 0 where
  pub value : List ℕ
  pub finds : FindsVersion setup hash key value version before
  pub looks : LooksUnder setup hash before between

-- the item under the hash was of this key and had this version; then the hash had that item still, which was deleted
pub record DeletesVersion (setup : Setup) (hash : ℕ) (key : List ℕ) (version : ℕ) (before now : Hand) : Type 0 where
  pub between : Hand
  pub first : FindsVersionFirst setup hash key version before between
  pub deletes : DeletesItemOf setup hash version between now

-- the item under the hash was of this key and had this version; then the hash had this, no item or another one, and nothing was deleted
pub record LosesVersion (setup : Setup) (hash : ℕ) (key : List ℕ) (version : ℕ) (found : Option ℕ) (before now : Hand) : Type 0 where
  pub between : Hand
  pub first : FindsVersionFirst setup hash key version before between
  pub differs : FindsOtherItem setup hash version found between now

-- the item under the hash is of this key, and has another version than this one
pub record HasOtherVersion (setup : Setup) (hash : ℕ) (key : List ℕ) (version : ℕ) (before : Hand) : Type 0 where
  pub other : ℕ
  pub differs : other ≢ version
  pub value : List ℕ
  pub finds : FindsVersion setup hash key value other before

-- the key had another version; or it had this one, and then the hash had another item
abbrev pub FindsOtherVersion : Setup → ℕ → List ℕ → ℕ → Hand → Hand → Type 0
FindsOtherVersion setup hash key version before now =
    HasOtherVersion setup hash key version before ⊎ ((other : ℕ) × LosesVersion setup hash key version (Some other) before now)

-- no item under the hash was of this key; or the key had this version, and then the hash had no item
abbrev pub FindsNoVersion : Setup → ℕ → List ℕ → ℕ → Hand → Hand → Type 0
FindsNoVersion setup hash key version before now = FindsOtherKey setup hash key before ⊎ LosesVersion setup hash key version None before now

-- the item under the hash was of this key and had this version; then each try for the lock of the hash's stripe missed, so nothing was deleted
pub record LeavesVersion (setup : Setup) (tries hash : ℕ) (key : List ℕ) (version : ℕ) (before now : Hand) : Type 0 where
  pub between : Hand
  pub first : FindsVersionFirst setup hash key version before between
  pub missed : MissesKeyEachTime setup tries hash between now

-- each try of a delete of a version for the lock of the hash's stripe missed: at the look, or behind it
abbrev pub MissesVersion : Setup → ℕ → ℕ → List ℕ → ℕ → Hand → Hand → Type 0
MissesVersion setup tries hash key version before now = MissesLock setup tries hash before now ⊎ LeavesVersion setup tries hash key version before now
