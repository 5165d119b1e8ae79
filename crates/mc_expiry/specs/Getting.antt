-- What a worker does that gets a value whose deadline isn't reached.
use Rattle.std.specs.Prelude.{◌≡◌, ◌⊎◌, ◌+◌, ◌-◌, ◌^◌, ℕ, Bool, true, false, if◌then◌else◌, min, List, ◌++◌, Option, None, Some, Result, Ok, Err}
use Rattle.mc_shard.specs.declared.deleting_version.Deletion.{Deletion}
use Rattle.mc_shard.specs.declared.deleting_version.Deletion.TheVariants.{Deleted, Exists, Missing}
use Rattle.mc_cache.specs.declared.cache.Cache.{Cache}
use Rattle.mc_cache.specs.declared.cache.Worker.{Worker}
use Rattle.mc_cache.specs.declared.working.CallError.{CallError}
use Rattle.mc_cache.specs.Belonging.{ActsOnKey, hash_in}
use Rattle.mc_cache.specs.Deleting.{DeletesOnce, DeletesVersionThere, KeepsOtherVersion, LacksVersion}
use Rattle.mc_cache.specs.Shards.{GetsAtMost, LooksInVain, TouchesNothing}
use Rattle.mc_expiry.specs.Looking.{FindsUnexpired, LooksAtKey}
use Rattle.mc_expiry.specs.declared.expiry.Expiry.{Expiry}

-- the bytes that an expiry has of values: of the one that was got last, and of the one that was to be stored last
abbrev pub kept_bytes : Expiry → List ℕ
kept_bytes expiry = expiry.stored.items ++ expiry.timed.items

-- the worker found that the key has an unexpired value, which was added behind the old bytes
pub record GetsUnexpired (cache : Cache) (key : List ℕ) (time : ℕ) (old new : List ℕ) (before now : Worker) : Type 0 where
  pub value : List ℕ
  pub version : ℕ
  pub finds : FindsUnexpired cache key time value version before now
  pub added : new ≡ old ++ value

-- the worker found no more stored bytes of this version to delete: the key had others, or none; or its stripe records calls and has no room for
-- one more
abbrev pub FindsVersionGone : Cache → List ℕ → ℕ → Worker → Worker → Type 0
FindsVersionGone cache key version before now =
    ActsOnKey cache key (KeepsOtherVersion (hash_in cache key) key version) before now ⊎ ActsOnKey cache key (LacksVersion (hash_in cache key) key version) before now
    ⊎ ActsOnKey cache key (LooksInVain (hash_in cache key)) before now

-- the worker deleted the key's stored bytes of this version, or the key had them no more
pub record DeletesThisVersion (cache : Cache) (key : List ℕ) (version : ℕ) (deleted : Bool) (before now : Worker) : Type 0 where
  pub there : deleted ≡ true → ActsOnKey cache key (DeletesVersionThere (hash_in cache key) key version) before now × ActsOnKey cache key (DeletesOnce (hash_in cache key)) before now
  pub gone : deleted ≡ false → FindsVersionGone cache key version before now × ActsOnKey cache key (GetsAtMost (hash_in cache key)) before now
  pub untouched : ActsOnKey cache key TouchesNothing before now

-- whether a delete of a version deleted something
abbrev pub is_deleted : Result Deletion CallError → Bool
is_deleted (Ok Deleted) = true
is_deleted (Ok Exists) = false
is_deleted (Ok Missing) = false
is_deleted (Err error) = false

-- the worker deleted what a look found, stored bytes of a version or nothing, and this says whether something was deleted
abbrev pub DeletesLapsed : Cache → List ℕ → Option ℕ → Bool → Worker → Worker → Type 0
DeletesLapsed cache key (Some version) deleted before now = DeletesThisVersion cache key version deleted before now
DeletesLapsed cache key None deleted before now = (now ≡ before) × (deleted ≡ false)

-- how many values an expiry's gets deleted
abbrev pub lapsed_count : Expiry → ℕ
lapsed_count expiry = expiry.lapsed

-- such a count behind one more get, up to 2^64 - 1
abbrev pub count_with_get : Bool → ℕ → ℕ
count_with_get deleted count = min (count + (if deleted then 1 else 0)) (2 ^ 64 - 1)

-- the worker found that the key has no value, or stored bytes without an unexpired one, and then it deleted these; what was deleted is counted
pub record MissesUnexpired (cache : Cache) (key : List ℕ) (time old new : ℕ) (before now : Worker) : Type 0 where
  pub found : Option ℕ
  pub between : Worker
  pub looks : LooksAtKey cache key time None found before between
  pub deleted : Bool
  pub deletes : DeletesLapsed cache key found deleted between now
  pub counted : new ≡ count_with_get deleted old
