-- What a worker's call within n tries does on the shard of its key, at each of its results.
use Rattle.std.specs.Prelude.{◌≡◌, ◌⊎◌, ℕ, Bool, true, false, List, Ok, Err, Result}
use Rattle.mc_words.specs.declared.arena.Arena.{Arena}
use Rattle.mc_words.specs.declared.hand.Hand.{Hand}
use Rattle.mc_words.specs.hand.Arenas.{setup_of, view}
use Rattle.mc_packing.specs.Packing.{packed_item}
use Rattle.mc_words.specs.hand.Observers.{hand_number}
use Rattle.mc_words.specs.item.Items.{item_with}
use Rattle.mc_items.specs.Keeping.{StoresNothing, StoresWithStamp}
use Rattle.mc_items.specs.declared.setting.SetError.{SetError}
use Rattle.mc_items.specs.declared.within.SetWithinError.TheVariants as items
use Rattle.mc_cache.specs.declared.working.TryGetError.{TryGetError}
use Rattle.mc_cache.specs.declared.working.TryGetError.TheVariants as try_error
use Rattle.mc_cache.specs.declared.working_within.SetWithinError.{SetWithinError}
use Rattle.mc_cache.specs.declared.working_within.SetWithinError.TheVariants as set_error
use Rattle.mc_cache.specs.declared.working_within.WithinError.{WithinError}
use Rattle.mc_cache.specs.declared.working_within.WithinError.TheVariants as within_error
use Rattle.mc_cache.specs.declared.cache.Cache.{Cache}
use Rattle.mc_cache.specs.declared.cache.Worker.{Worker}
use Rattle.mc_cache.specs.Resting.{ActsAgain}
use Rattle.mc_cache.specs.Shards.{DeletesAtMost, GetsAtMost}
use Rattle.mc_shard.specs.Finding.{DeletesKey, DeletesNone, FindsFull, FindsOtherKey, FindsSome, ReturnsValue, TouchesKey}
use Rattle.mc_shard.specs.Reading.{LeavesSlabs, TakesSlabsOnce}
use Rattle.mc_items.specs.declared.comparing.Expected.TheVariants.{Anything}
use Rattle.mc_shard.specs.Setting.{RecordsEvictionsAlone, RecordsSetBehindRoom, RefusesBytes, SetsBehindRoom}
use Rattle.mc_shard.specs.Within.{MissesDelete, MissesLock, MissesKeyTouch, RefusesBytesWithin}

-- a set of the value under the key
pub record SetsWithin (tries hash : ℕ) (key value : List ℕ) (result : Result (Unit {0}) SetWithinError) (arena : Arena) (before now : Hand) : Type 0 where
  -- the value was stored with a stamp of the hand's own, behind room that was made for it
  pub stores : result ≡ Ok tt → (stamp : ℕ) × StoresWithStamp (item_with hash stamp (packed_item key value)) stamp (view before) (view now)
      × SetsBehindRoom Anything (hand_number before) hash stamp (packed_item key value) before now × RecordsSetBehindRoom (hand_number before) hash stamp before now
  pub refused : (error : SetError) → result ≡ Err (set_error.Item error) → RefusesBytes (hand_number before) hash (packed_item key value) error before now
  -- each try for one of the locks missed
  pub held : result ≡ Err set_error.Held → RefusesBytesWithin (hand_number before) tries hash (packed_item key value) items.Held before now
  -- where it isn't stored, items were evicted at most
  pub evicts : (result ≡ Ok tt → ⊥) → RecordsEvictionsAlone (hand_number before) before now
  pub stores_nothing : (result ≡ Ok tt → ⊥) → StoresNothing (view before) (view now)
  pub number : hand_number now ≡ hand_number before

-- a get of the key, whose value comes behind the old bytes
pub record GetsWithin (tries hash : ℕ) (key old new : List ℕ) (result : Result Bool TryGetError) (arena : Arena) (before now : Hand) : Type 0 where
  -- the key's value was added behind the bytes
  pub value : result ≡ Ok true → ReturnsValue (setup_of arena) hash key before old new
  -- no item is under the hash, or one of another key
  pub none : result ≡ Ok false → FindsOtherKey (setup_of arena) hash key before
  -- each try for the lock missed
  pub held : result ≡ Err try_error.Held → MissesLock (setup_of arena) tries hash before now
  -- the history had no room for a call, or an item was found and there was no memory for its bytes
  pub full : result ≡ Err (try_error.NoMemory tt) → FindsFull (setup_of arena) hash before now ⊎ FindsSome (setup_of arena) hash before
  -- at each other result the bytes stay
  pub kept : (result ≡ Ok true → ⊥) → new ≡ old
  pub calls : GetsAtMost hash arena before now
  pub stores_nothing : StoresNothing (view before) (view now)
  pub slabs : LeavesSlabs (view before) (view now)

-- a delete of the key
pub record DeletesWithin (tries hash : ℕ) (key : List ℕ) (result : Result Bool WithinError) (arena : Arena) (before now : Hand) : Type 0 where
  pub deletes : result ≡ Ok true → DeletesKey (setup_of arena) hash key true before now
  pub none : result ≡ Ok false → DeletesNone (setup_of arena) hash key before now
  pub held : result ≡ Err within_error.Held → MissesDelete (setup_of arena) tries hash key before now
  pub full : result ≡ Err (within_error.NoMemory tt) → (between : Hand) × FindsFull (setup_of arena) hash between now
  pub calls : DeletesAtMost hash arena before now
  pub stores_nothing : StoresNothing (view before) (view now)
  pub slabs : LeavesSlabs (view before) (view now)

-- a touch of the key
pub record TouchesWithin (tries hash : ℕ) (key : List ℕ) (result : Result Bool WithinError) (arena : Arena) (before now : Hand) : Type 0 where
  pub touches : result ≡ Ok true → TouchesKey (setup_of arena) hash key before now
  pub none : result ≡ Ok false → FindsOtherKey (setup_of arena) hash key before
  pub held : result ≡ Err within_error.Held → MissesKeyTouch (setup_of arena) tries hash key before now
  pub full : result ≡ Err (within_error.NoMemory tt) → FindsFull (setup_of arena) hash before now
  pub once : result ≡ Ok true → TakesSlabsOnce (view before) (view now)
  pub slabs : (result ≡ Ok true → ⊥) → LeavesSlabs (view before) (view now)
  pub calls : GetsAtMost hash arena before now
  pub stores_nothing : StoresNothing (view before) (view now)

-- the set was done, or held; so it wasn't refused
abbrev pub IsDoneOrHeld : Result (Unit {0}) SetWithinError → Type 0
IsDoneOrHeld (Ok done) = Unit {0}
IsDoneOrHeld (Err set_error.Held) = Unit {0}
IsDoneOrHeld (Err set_error.KeyLength) = ⊥
IsDoneOrHeld (Err (set_error.Item error)) = ⊥

-- what a set returns that was refused, and whose delete returned this
abbrev pub refusal_behind : Result Bool WithinError → SetError → Result (Unit {0}) SetWithinError
refusal_behind (Err within_error.Held) error = Err set_error.Held
refusal_behind (Err within_error.KeyLength) error = Err (set_error.Item error)
refusal_behind (Err (within_error.NoMemory refused)) error = Err (set_error.Item error)
refusal_behind (Ok there) error = Err (set_error.Item error)

-- the store was refused, and then the key's old value was deleted, or each try for that missed
pub record RefusesAndDeletesWithin (cache : Cache) (tries : ℕ) (key value : List ℕ) (result : Result (Unit {0}) SetWithinError) (before now : Worker) : Type 0 where
  pub error : SetError
  pub between : Worker
  pub refuses : ActsAgain cache key (λ hash. SetsWithin tries hash key value (Err (set_error.Item error))) before between
  pub deleted : Result Bool WithinError
  pub deletes : ActsAgain cache key (λ hash. DeletesWithin tries hash key deleted) between now
  pub result_is : result ≡ refusal_behind deleted error

-- a set that deletes the key's old value where it is refused
abbrev pub SetsOrDeletesWithin : Cache → ℕ → List ℕ → List ℕ → Result (Unit {0}) SetWithinError → Worker → Worker → Type 0
SetsOrDeletesWithin cache tries key value result before now =
    (IsDoneOrHeld result × ActsAgain cache key (λ hash. SetsWithin tries hash key value result) before now)
    ⊎ RefusesAndDeletesWithin cache tries key value result before now
