-- What a call does by a client, and the code that it returns.
use Rattle.std.specs.Prelude.{◌≡◌, ◌↔◌, ◌⊎◌, ◌<◌, ◌≤◌, ◌++◌, ℕ, Bool, true, false, List, [], drop, length, Option, None, Some, Err, Ok, Result}
use Rattle.std.specs.Arc.{arc_value}
use Rattle.mc_items.specs.declared.setting.SetError.TheVariants as item_error
use Rattle.mc_cache.specs.declared.cache.Cache.{Cache}
use Rattle.mc_cache.specs.declared.working.TryGetError.{TryGetError}
use Rattle.mc_cache.specs.declared.working.TryGetError.TheVariants as get_error
use Rattle.mc_cache.specs.declared.working_within.SetWithinError.{SetWithinError}
use Rattle.mc_cache.specs.declared.working_within.SetWithinError.TheVariants as set_error
use Rattle.mc_cache.specs.declared.working_within.WithinError.{WithinError}
use Rattle.mc_cache.specs.declared.working_within.WithinError.TheVariants as within_error
use Rattle.mc_cache.specs.Belonging.{KeepsHands}
use Rattle.mc_shard.specs.declared.conditions.Outcome.{Outcome}
use Rattle.mc_shard.specs.declared.deleting_version.Deletion.{Deletion}
use Rattle.mc_shard.specs.declared.conditions.When.{When}
use Rattle.mc_cache.specs.Conditional.{SetsValueIfWithin}
use Rattle.mc_cache.specs.Deleting.{DeletesVersionWithin}
use Rattle.mc_cache.specs.Resting.{ActsAgain}
use Rattle.mc_cache.specs.Shards.{IsKey}
use Rattle.mc_cache.specs.Versions.{GetsVersionWithin}
use Rattle.mc_cache.specs.Sizes.{IsMostBesideIn, LacksClassBesideIn, LacksClassIn}
use Rattle.mc_cache.specs.WorkingWithin.{DeletesWithin, GetsWithin, SetsOrDeletesWithin, SetsWithin, TouchesWithin}
use Rattle.mc_c.specs.declared.client.WorkerClient.{WorkerClient}
use Rattle.mc_c.specs.Codes.{deletion_code, get_code, outcome_code, set_code, within_code}

-- the cache of a client
abbrev pub cache_of : WorkerClient → Cache
cache_of client = arc_value client.cache

-- what a get writes: the value where there is room, and its length wherever the key has one
abbrev pub WritesValue : Result Bool TryGetError → List ℕ → ℕ → List ℕ → ℕ → List ℕ → ℕ → Type 0
WritesValue (Ok true) value code before len now new_len =
    (new_len ≡ length value) × (length value ≤ length before → (code ≡ 0) × (now ≡ value ++ drop (length value) before)) × (length before < length value → (code ≡ 7) × (now ≡ before))
WritesValue found value code before len now new_len = (code ≡ get_code found) × (now ≡ before) × (new_len ≡ len)

-- a get of the client: what it found of the key, and what it wrote
pub record GetsAs (code tries : ℕ) (key before : List ℕ) (len : ℕ) (now : List ℕ) (new_len : ℕ) (client after : WorkerClient) : Type 0 where
  pub found : Result Bool TryGetError
  pub value : List ℕ
  pub key_length : (found ≡ Err get_error.KeyLength) ↔ ¬ IsKey key
  pub same : found ≡ Err get_error.KeyLength → KeepsHands client.worker after.worker
  pub acts : IsKey key → ActsAgain (cache_of client) key (λ hash. GetsWithin tries hash key [] value found) client.worker after.worker
  pub writes : WritesValue found value code before len now new_len
  pub cache : cache_of after ≡ cache_of client
  pub spare : after.spare.items ≡ client.spare.items

-- a set of the client, whose result has this code
pub record SetsAs (code tries : ℕ) (key value : List ℕ) (client after : WorkerClient) : Type 0 where
  pub done : Result (Unit {0}) SetWithinError
  pub coded : code ≡ set_code done
  pub key_length : (done ≡ Err set_error.KeyLength) ↔ ¬ IsKey key
  pub too_large : done ≡ Err (set_error.Item item_error.TooLarge) → LacksClassIn (cache_of client) (length key) (length value)
  pub acts : IsKey key → SetsOrDeletesWithin (cache_of client) tries key value done client.worker after.worker
  pub same : ¬ IsKey key → KeepsHands client.worker after.worker
  pub cache : cache_of after ≡ cache_of client
  pub spare : after.spare.items ≡ client.spare.items

-- a set of the client that deletes nothing, whose result has this code
pub record SetsOrKeepsAs (code tries : ℕ) (key value : List ℕ) (client after : WorkerClient) : Type 0 where
  pub done : Result (Unit {0}) SetWithinError
  pub coded : code ≡ set_code done
  pub key_length : (done ≡ Err set_error.KeyLength) ↔ ¬ IsKey key
  pub too_large : (done ≡ Err (set_error.Item item_error.TooLarge)) ↔ IsKey key × LacksClassIn (cache_of client) (length key) (length value)
  pub acts : IsKey key → ActsAgain (cache_of client) key (λ hash. SetsWithin tries hash key value done) client.worker after.worker
  pub same : ¬ IsKey key → KeepsHands client.worker after.worker
  pub cache : cache_of after ≡ cache_of client
  pub spare : after.spare.items ≡ client.spare.items

-- a set on a condition of the client, whose result has this code
pub record SetsIfAs (code tries : ℕ) (key value : List ℕ) (when : When) (client after : WorkerClient) : Type 0 where
  pub done : Result Outcome SetWithinError
  pub coded : code ≡ outcome_code done
  pub key_length : (done ≡ Err set_error.KeyLength) ↔ ¬ IsKey key
  pub too_large : done ≡ Err (set_error.Item item_error.TooLarge) → LacksClassIn (cache_of client) (length key) (length value)
  pub acts : IsKey key → ActsAgain (cache_of client) key (λ hash. SetsValueIfWithin tries hash key value when done) client.worker after.worker
  pub same : ¬ IsKey key → KeepsHands client.worker after.worker
  pub cache : cache_of after ≡ cache_of client
  pub spare : after.spare.items ≡ client.spare.items

-- whether a get found a version, or why it didn't look
abbrev pub is_found : Result (Option ℕ) TryGetError → Result Bool TryGetError
is_found (Ok (Some version)) = Ok true
is_found (Ok None) = Ok false
is_found (Err error) = Err error

-- the version that a get writes: that which it found, or what was there
abbrev pub version_or : Result (Option ℕ) TryGetError → ℕ → ℕ
version_or (Ok (Some version)) before = version
version_or (Ok None) before = before
version_or (Err error) before = before

-- a get with its version of the client: what it found of the key, and what it wrote
pub record GetsVersionAs (code tries : ℕ) (key before : List ℕ) (len version : ℕ) (now : List ℕ) (new_len new_version : ℕ) (client after : WorkerClient) : Type 0 where
  pub found : Result (Option ℕ) TryGetError
  pub value : List ℕ
  pub key_length : (found ≡ Err get_error.KeyLength) ↔ ¬ IsKey key
  pub same : found ≡ Err get_error.KeyLength → KeepsHands client.worker after.worker
  pub acts : IsKey key → ActsAgain (cache_of client) key (λ hash. GetsVersionWithin tries hash key [] value found) client.worker after.worker
  pub writes : WritesValue (is_found found) value code before len now new_len
  pub version_is : new_version ≡ version_or found version
  pub cache : cache_of after ≡ cache_of client
  pub spare : after.spare.items ≡ client.spare.items

-- a delete of the client, whose result has this code
pub record DeletesAs (code tries : ℕ) (key : List ℕ) (client after : WorkerClient) : Type 0 where
  pub done : Result Bool WithinError
  pub coded : code ≡ within_code done
  pub key_length : (done ≡ Err within_error.KeyLength) ↔ ¬ IsKey key
  pub same : done ≡ Err within_error.KeyLength → KeepsHands client.worker after.worker
  pub acts : IsKey key → ActsAgain (cache_of client) key (λ hash. DeletesWithin tries hash key done) client.worker after.worker
  pub cache : cache_of after ≡ cache_of client
  pub spare : after.spare.items ≡ client.spare.items

-- a delete of a version of the client, whose result has this code
pub record DeletesVersionAs (code tries : ℕ) (key : List ℕ) (version : ℕ) (client after : WorkerClient) : Type 0 where
  pub done : Result Deletion WithinError
  pub coded : code ≡ deletion_code done
  pub key_length : (done ≡ Err within_error.KeyLength) ↔ ¬ IsKey key
  pub same : done ≡ Err within_error.KeyLength → KeepsHands client.worker after.worker
  pub acts : IsKey key → ActsAgain (cache_of client) key (λ hash. DeletesVersionWithin tries hash key version done) client.worker after.worker
  pub cache : cache_of after ≡ cache_of client
  pub spare : after.spare.items ≡ client.spare.items

-- a touch of the client, whose result has this code
pub record TouchesAs (code tries : ℕ) (key : List ℕ) (client after : WorkerClient) : Type 0 where
  pub done : Result Bool WithinError
  pub coded : code ≡ within_code done
  pub key_length : (done ≡ Err within_error.KeyLength) ↔ ¬ IsKey key
  pub same : done ≡ Err within_error.KeyLength → KeepsHands client.worker after.worker
  pub acts : IsKey key → ActsAgain (cache_of client) key (λ hash. TouchesWithin tries hash key done) client.worker after.worker
  pub cache : cache_of after ≡ cache_of client
  pub spare : after.spare.items ≡ client.spare.items

-- the most bytes of a value beside a key of this length were written, or the cache has no class for such a key
pub record ReturnsMostAs (code key_len before now : ℕ) (client after : WorkerClient) : Type 0 where
  pub codes : (code ≡ 0) ⊎ (code ≡ 3)
  pub most : code ≡ 0 → IsMostBesideIn (cache_of client) key_len now
  pub none : code ≡ 3 → LacksClassBesideIn (cache_of client) key_len
  pub kept : code ≡ 3 → now ≡ before
  pub same : after ≡ client
