-- What a worker does that changes a value: it gets the value and stores what becomes of it, until no other worker comes between.
use Rattle.std.specs.Prelude.{◌≡◌, ℕ, zero, suc, List, Option, None, Some, Result, Ok, Err}
use Rattle.mc_shard.specs.declared.conditions.Outcome.{Outcome}
use Rattle.mc_shard.specs.declared.conditions.Outcome.TheVariants.{Stored, Exists, Missing}
use Rattle.mc_shard.specs.declared.conditions.When.TheVariants.{Version}
use Rattle.mc_cache.specs.declared.cache.Cache.{Cache}
use Rattle.mc_cache.specs.declared.cache.Worker.{Worker}
use Rattle.mc_cache.specs.declared.working.SetError.{SetError}
use Rattle.mc_cache.specs.declared.working.SetError.TheVariants as set_error
use Rattle.mc_cache.specs.Belonging.{ActsOnKey, hash_in}
use Rattle.mc_cache.specs.Conditional.{SetsValueIf}
use Rattle.mc_cache.specs.Shards.{GetsAtMost, ReadsOther, StoresNoMore, TouchesNothing}
use Rattle.mc_cache.specs.Versions.{ReadsVersion}
use Rattle.mc_update.specs.Changes.{changed_by}
use Rattle.mc_update.specs.declared.change.Change.{Change}
use Rattle.mc_update.specs.declared.updater.ChangeError.{ChangeError}
use Rattle.mc_update.specs.declared.updater.ChangeError.TheVariants as change_error
use Rattle.mc_update.specs.declared.updater.Updater.{Updater}

-- the version of what a set on a condition stored, if it did
abbrev pub stored_version : Outcome → Option ℕ
stored_version (Stored stamp) = Some stamp
stored_version Exists = None
stored_version Missing = None

-- the bytes that an updater has of its last call: what was stored, or got, or made
abbrev pub stored_by : Updater → List ℕ
stored_by updater = updater.new_value.items

-- the worker did nothing but a get of the key
pub record OnlyGets (cache : Cache) (key : List ℕ) (before now : Worker) : Type 0 where
  pub calls : ActsOnKey cache key (GetsAtMost (hash_in cache key)) before now
  pub untouched : ActsOnKey cache key TouchesNothing before now

-- the worker got the key's value with its version
pub record GetsVersion (cache : Cache) (key value : List ℕ) (version : ℕ) (before now : Worker) : Type 0 where
  pub reads : ActsOnKey cache key (ReadsVersion (hash_in cache key) key value version) before now
  pub only : OnlyGets cache key before now

-- the worker got the key's value, and then set what becomes of it, if the key still had that very value
pub record SetsChanged (cache : Cache) (key : List ℕ) (change : Change) (value : List ℕ) (result : Result Outcome SetError) (before now : Worker) : Type 0 where
  pub old : List ℕ
  pub version : ℕ
  pub between : Worker
  pub gets : GetsVersion cache key old version before between
  pub changes : changed_by change old ≡ Some value
  pub sets : ActsOnKey cache key (SetsValueIf (hash_in cache key) key value (Version version) result) between now

-- another worker changed the key meanwhile, or deleted it: nothing was stored
pub record SetsInVain (cache : Cache) (key : List ℕ) (change : Change) (before now : Worker) : Type 0 where
  pub value : List ℕ
  pub outcome : Outcome
  pub vain : stored_version outcome ≡ None
  pub sets : SetsChanged cache key change value (Ok outcome) before now

-- that so many times
abbrev pub SetInVainTimes : ℕ → Cache → List ℕ → Change → Worker → Worker → Type 0
SetInVainTimes zero cache key change before now = now ≡ before
SetInVainTimes (suc times) cache key change before now =
    (between : Worker) × SetInVainTimes times cache key change before between × SetsInVain cache key change between now

-- the worker found that the key has no value
pub record FindsNoValue (cache : Cache) (key : List ℕ) (before now : Worker) : Type 0 where
  pub none : ActsOnKey cache key (ReadsOther (hash_in cache key) key) before now
  pub only : OnlyGets cache key before now

-- the worker found a value that the change isn't for
pub record FindsNoNumber (cache : Cache) (key : List ℕ) (change : Change) (before now : Worker) : Type 0 where
  pub old : List ℕ
  pub version : ℕ
  pub gets : GetsVersion cache key old version before now
  pub not_for : changed_by change old ≡ None

-- the worker stored nothing, and did nothing but a get of the key
pub record EndsWithoutMemory (cache : Cache) (key : List ℕ) (before now : Worker) : Type 0 where
  pub stores_nothing : ActsOnKey cache key StoresNoMore before now
  pub only : OnlyGets cache key before now

-- how a change ends: the value was stored, or what was found, or why it was refused
abbrev pub EndsWith : Cache → List ℕ → Change → List ℕ → Result (Option ℕ) ChangeError → Worker → Worker → Type 0
EndsWith cache key change value (Ok (Some stamp)) before now = SetsChanged cache key change value (Ok (Stored stamp)) before now
EndsWith cache key change value (Ok None) before now = FindsNoValue cache key before now
EndsWith cache key change value (Err change_error.KeyLength) before now = ⊥
EndsWith cache key change value (Err change_error.NotNumber) before now = FindsNoNumber cache key change before now
EndsWith cache key change value (Err (change_error.NoMemory _)) before now = EndsWithoutMemory cache key before now
EndsWith cache key change value (Err (change_error.Item error)) before now = SetsChanged cache key change value (Err (set_error.Item error)) before now

-- a change of the key's value: some sets in vain, and then its end
pub record ChangesValue (cache : Cache) (key : List ℕ) (change : Change) (value : List ℕ) (result : Result (Option ℕ) ChangeError) (before now : Worker) : Type 0 where
  pub times : ℕ
  pub between : Worker
  pub vain : SetInVainTimes times cache key change before between
  pub ends : EndsWith cache key change value result between now
