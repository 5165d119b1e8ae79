-- A cache and its workers: who belongs to whom, and what a call of a worker does on the shard of its key.
use Rattle.std.specs.Prelude.{◌≡◌, ◌⊎◌, ℕ, false, true, List, ◌++◌, All, length}
use Rattle.mc_words.specs.declared.arena.Arena.{Arena}
use Rattle.mc_words.specs.declared.hand.Hand.{Hand}
use Rattle.mc_items.specs.declared.setting.SetError.{SetError}
use Rattle.mc_cache.specs.declared.cache.Cache.{Cache}
use Rattle.mc_cache.specs.declared.cache.Worker.{Worker}
use Rattle.mc_cache.specs.Hashing.{hash_of, shard_of}
use Rattle.mc_cache.specs.Shards.{ActsOnShard, AreIdleHands, AreUnusedHands, DeletesAtMost, DeletesThere, LooksInVain, ReadsOther, ReadsValue, RefusesValue, TouchesNothing}

-- the worker has an idle hand of each of the cache's arenas
abbrev pub BelongsTo : Cache → Worker → Type 0
BelongsTo cache worker = AreIdleHands cache.arenas.items worker.hands.items

-- each worker has an idle hand of each of these arenas
abbrev pub HaveIdleHands : List Arena → List Worker → Type 0
HaveIdleHands arenas workers = All (λ worker. AreIdleHands arenas worker.hands.items) workers

-- each worker has an idle hand of each of these arenas, and none of these hands did anything yet
abbrev pub HaveUnusedHands : List Arena → List Worker → Type 0
HaveUnusedHands arenas workers = All (λ worker. AreUnusedHands arenas worker.hands.items) workers

-- the worker has an idle hand of each of the cache's arenas, and none of these hands did anything yet
abbrev pub IsUnusedWorker : Cache → Worker → Type 0
IsUnusedWorker cache worker = AreUnusedHands cache.arenas.items worker.hands.items

-- the hash of a key, by which the cache finds its shard
abbrev pub hash_in : Cache → List ℕ → ℕ
hash_in cache key = hash_of cache.hashing key

-- the shard of a key: the place of the arena that has it, counted from 0
abbrev pub shard_in : Cache → List ℕ → ℕ
shard_in cache key = shard_of (length cache.arenas.items) (hash_in cache key)

-- the worker did this with its hand of the key's shard, and its other hands are unchanged
abbrev pub ActsOnKey : Cache → List ℕ → (Arena → Hand → Hand → Type 0) → Worker → Worker → Type 0
ActsOnKey cache key Does before now = ActsOnShard cache.arenas.items (shard_in cache key) Does before.hands.items now.hands.items

-- the worker has the hands that it had
abbrev pub KeepsHands : Worker → Worker → Type 0
KeepsHands before now = now.hands.items ≡ before.hands.items

-- the worker found the key with a value, which was added behind the old bytes
abbrev pub GivesValueOf : Cache → List ℕ → List ℕ → List ℕ → Worker → Worker → Type 0
GivesValueOf cache key old new before now = (value : List ℕ) × ActsOnKey cache key (ReadsValue (hash_in cache key) key value) before now × (new ≡ old ++ value)

-- the worker found no such key, or one that was gone when it was to be deleted
abbrev pub DeletesNoneOf : Cache → List ℕ → Worker → Worker → Type 0
DeletesNoneOf cache key before now = ActsOnKey cache key (ReadsOther (hash_in cache key) key) before now ⊎ ActsOnKey cache key (DeletesThere (hash_in cache key) key false) before now

-- the store of the value was refused
abbrev pub RefusesValueOf : Cache → List ℕ → List ℕ → SetError → Worker → Worker → Type 0
RefusesValueOf cache key value error before now = ActsOnKey cache key (RefusesValue (hash_in cache key) key value error) before now

-- the worker deleted the key's value; or found none; or its stripe records calls and has no room for one more
abbrev pub DeletesAnyOf : Cache → List ℕ → Worker → Worker → Type 0
DeletesAnyOf cache key before now =
    ActsOnKey cache key (DeletesThere (hash_in cache key) key true) before now ⊎ DeletesNoneOf cache key before now ⊎ ActsOnKey cache key (LooksInVain (hash_in cache key)) before now

-- the store of the value was refused, and then the key's old value was deleted
pub record RefusesAndDeletes (cache : Cache) (key value : List ℕ) (error : SetError) (before now : Worker) : Type 0 where
  pub between : Worker
  pub refuses : RefusesValueOf cache key value error before between
  pub deletes : DeletesAnyOf cache key between now
  -- and the hand did no more behind the refusal: it got a delete at most, behind a get at most, and didn't take the slabs lock
  pub calls : ActsOnKey cache key (DeletesAtMost (hash_in cache key)) between now
  pub untouched : ActsOnKey cache key TouchesNothing between now
