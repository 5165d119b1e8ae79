-- What a worker's set on a condition does on the shard of its key.
use Rattle.std.specs.Prelude.{◌≡◌, ◌⊎◌, ℕ, List, None, Result, Ok, Err}
use Rattle.mc_words.specs.declared.arena.Arena.{Arena}
use Rattle.mc_words.specs.declared.hand.Hand.{Hand}
use Rattle.mc_words.specs.hand.Arenas.{setup_of}
use Rattle.mc_words.specs.hand.Observers.{hand_number}
use Rattle.mc_items.specs.declared.setting.SetError as items
use Rattle.mc_items.specs.declared.within.SetWithinError as items_within
use Rattle.mc_items.specs.declared.within.SetWithinError.TheVariants as within
use Rattle.mc_shard.specs.declared.conditions.Outcome.{Outcome}
use Rattle.mc_shard.specs.declared.conditions.Outcome.TheVariants.{Stored}
use Rattle.mc_shard.specs.declared.conditions.When.{When}
use Rattle.mc_shard.specs.declared.conditions.When.TheVariants.{Absent, Present, Version}
use Rattle.mc_cache.specs.declared.working.SetError.{SetError}
use Rattle.mc_cache.specs.declared.working.SetError.TheVariants as set_error
use Rattle.mc_cache.specs.declared.working_within.SetWithinError.{SetWithinError}
use Rattle.mc_cache.specs.declared.working_within.SetWithinError.TheVariants as set_within_error
use Rattle.mc_items.specs.declared.comparing.Expected.TheVariants as expected
use Rattle.mc_items.specs.declared.comparing.Expected.{Expected}
use Rattle.mc_shard.specs.Conditions.{FindsOtherStamp, FindsVersion, SetsIf, SetsIfWithin, StoresExpected}
use Rattle.mc_shard.specs.Finding.{FindsKey, FindsWords}

-- the result of a worker's set where that on the shard returned this
abbrev pub of_item : Result Outcome items.SetError → Result Outcome SetError
of_item (Ok outcome) = Ok outcome
of_item (Err error) = Err (set_error.Item error)

-- the same, of a set within n tries
abbrev pub of_item_within : Result Outcome items_within.SetWithinError → Result Outcome SetWithinError
of_item_within (Ok outcome) = Ok outcome
of_item_within (Err (within.Refused error)) = Err (set_within_error.Item error)
of_item_within (Err within.Held) = Err set_within_error.Held

-- the hand set the value under the key on a condition
pub record SetsValueIf (hash : ℕ) (key value : List ℕ) (when : When) (result : Result Outcome SetError) (arena : Arena) (before now : Hand) : Type 0 where
  pub number : hand_number now ≡ hand_number before
  pub returned : Result Outcome items.SetError
  pub result_is : result ≡ of_item returned
  pub sets : SetsIf (setup_of arena) hash key value when returned before now

-- the same, within n tries for each lock
pub record SetsValueIfWithin (tries hash : ℕ) (key value : List ℕ) (when : When) (result : Result Outcome SetWithinError) (arena : Arena) (before now : Hand) : Type 0 where
  pub number : hand_number now ≡ hand_number before
  pub returned : Result Outcome items_within.SetWithinError
  pub result_is : result ≡ of_item_within returned
  pub sets : SetsIfWithin (setup_of arena) tries hash key value when returned before now

-- behind a look the value was stored under the key with this stamp, in place of what was expected
abbrev pub StoresBehindLook : Expected → ℕ → ℕ → List ℕ → List ℕ → Hand → Hand → Type 0
StoresBehindLook expected hash stamp key value before now = (between : Hand) × StoresExpected expected (hand_number before) hash stamp key value between now

-- *a set that stores over a version takes the place of the value that has this version*
abbrev pub VersionsAreReplaced : Type 0
VersionsAreReplaced =
    (arena : Arena) (hash : ℕ) (key value : List ℕ) (version stamp : ℕ) (before now : Hand) → SetsValueIf hash key value (Version version) (Ok (Stored stamp)) arena before now
    → ((old : List ℕ) × FindsVersion (setup_of arena) hash key old version before) × StoresBehindLook (expected.Item version) hash stamp key value before now

-- *an add stores where the key has no value: no item is under the hash until the store, or the item of another key is there until then*
abbrev pub AddsFindNone : Type 0
AddsFindNone =
    (arena : Arena) (hash : ℕ) (key value : List ℕ) (stamp : ℕ) (before now : Hand) → SetsValueIf hash key value Absent (Ok (Stored stamp)) arena before now
    → (FindsWords (setup_of arena) hash before None × StoresBehindLook expected.Nothing hash stamp key value before now)
    ⊎ ((other : ℕ) × FindsOtherStamp (setup_of arena) hash key other before × StoresBehindLook (expected.Item other) hash stamp key value before now)

-- *a replace stores where the key has a value, and an item is under its hash at the store*
abbrev pub ReplacesFindOne : Type 0
ReplacesFindOne =
    (arena : Arena) (hash : ℕ) (key value : List ℕ) (stamp : ℕ) (before now : Hand) → SetsValueIf hash key value Present (Ok (Stored stamp)) arena before now
    → FindsKey (setup_of arena) hash key before × StoresBehindLook expected.Something hash stamp key value before now
