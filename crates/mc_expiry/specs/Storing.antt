-- What a worker does that stores a value with a deadline by what the key has: it looks, and stores what it chooses, until no other worker comes
-- between.
use Rattle.std.specs.Prelude.{◌≡◌, ℕ, zero, suc, List, Option, None, Some, Result, Ok, Err}
use Rattle.mc_shard.specs.declared.conditions.Outcome.{Outcome}
use Rattle.mc_shard.specs.declared.conditions.Outcome.TheVariants.{Stored}
use Rattle.mc_cache.specs.declared.cache.Cache.{Cache}
use Rattle.mc_cache.specs.declared.cache.Worker.{Worker}
use Rattle.mc_cache.specs.declared.working.SetError.{SetError}
use Rattle.mc_cache.specs.declared.working.SetError.TheVariants as set_error
use Rattle.mc_cache.specs.Belonging.{ActsOnKey, hash_in}
use Rattle.mc_cache.specs.Conditional.{SetsValueIf}
use Rattle.mc_update.specs.Updates.{EndsWithoutMemory, stored_version}
use Rattle.mc_expiry.specs.Choosing.{value_to_store}
use Rattle.mc_expiry.specs.Deadlines.{timed_bytes}
use Rattle.mc_expiry.specs.Looking.{LooksAtKey, condition_of}
use Rattle.mc_expiry.specs.declared.kinds.StoreKind.{StoreKind}
use Rattle.mc_expiry.specs.declared.storing.ExpiryError.{ExpiryError}
use Rattle.mc_expiry.specs.declared.storing.ExpiryError.TheVariants as expiry_error

-- the worker looked at the key, and then set what it chose, with this deadline, if the key still had what the look found
pub record SetsChosen (cache : Cache) (key : List ℕ) (kind : StoreKind) (time deadline : ℕ) (result : Result Outcome SetError) (before now : Worker) : Type 0 where
  pub unexpired : Option (List ℕ)
  pub found : Option ℕ
  pub between : Worker
  pub looks : LooksAtKey cache key time unexpired found before between
  pub value : List ℕ
  pub chooses : value_to_store kind unexpired ≡ Some value
  pub sets : ActsOnKey cache key (SetsValueIf (hash_in cache key) key (timed_bytes deadline value) (condition_of found) result) between now

-- another worker changed the key meanwhile: nothing was stored
pub record MissesStore (cache : Cache) (key : List ℕ) (kind : StoreKind) (time deadline : ℕ) (before now : Worker) : Type 0 where
  pub outcome : Outcome
  pub vain : stored_version outcome ≡ None
  pub sets : SetsChosen cache key kind time deadline (Ok outcome) before now

-- that so many times
abbrev pub MissesStoreTimes : ℕ → Cache → List ℕ → StoreKind → ℕ → ℕ → Worker → Worker → Type 0
MissesStoreTimes zero cache key kind time deadline before now = now ≡ before
MissesStoreTimes (suc times) cache key kind time deadline before now =
    (between : Worker) × MissesStoreTimes times cache key kind time deadline before between × MissesStore cache key kind time deadline between now

-- the worker looked at the key, and found what nothing is stored for
pub record FindsUnchosen (cache : Cache) (key : List ℕ) (kind : StoreKind) (time : ℕ) (before now : Worker) : Type 0 where
  pub unexpired : Option (List ℕ)
  pub found : Option ℕ
  pub looks : LooksAtKey cache key time unexpired found before now
  pub chooses : value_to_store kind unexpired ≡ None

-- how a store ends: the value was stored, or what was found, or why it was refused
abbrev pub EndsStore : Cache → List ℕ → StoreKind → ℕ → ℕ → Result (Option ℕ) ExpiryError → Worker → Worker → Type 0
EndsStore cache key kind time deadline (Ok (Some stamp)) before now = SetsChosen cache key kind time deadline (Ok (Stored stamp)) before now
EndsStore cache key kind time deadline (Ok None) before now = FindsUnchosen cache key kind time before now
EndsStore cache key kind time deadline (Err expiry_error.KeyLength) before now = ⊥
EndsStore cache key kind time deadline (Err (expiry_error.NoMemory _)) before now = EndsWithoutMemory cache key before now
EndsStore cache key kind time deadline (Err (expiry_error.Item error)) before now = SetsChosen cache key kind time deadline (Err (set_error.Item error)) before now

-- a store of this kind: some times in vain, and then its end
pub record StoresUntil (cache : Cache) (key : List ℕ) (kind : StoreKind) (time deadline : ℕ) (result : Result (Option ℕ) ExpiryError) (before now : Worker) : Type 0 where
  pub times : ℕ
  pub between : Worker
  pub vain : MissesStoreTimes times cache key kind time deadline before between
  pub ends : EndsStore cache key kind time deadline result between now
