-- Sets of bytes that store only on a condition: what a look saw, what the store expected then, and what was done.
use Rattle.std.specs.Prelude.{◌≡◌, ◌⊎◌, ◌==◌, if◌then◌else◌, ℕ, List, ◌++◌, None, Some, Result, Ok, Err}
use Rattle.std.specs.Option.{option_map}
use Rattle.mc_packing.specs.Packing.{IsPackingOf, packed_item}
use Rattle.mc_words.specs.declared.hand.Hand.{Hand}
use Rattle.mc_words.specs.hand.Arenas.{view}
use Rattle.mc_words.specs.hand.Observers.{hand_number}
use Rattle.mc_words.specs.hand.View.{Setup}
use Rattle.mc_words.specs.item.Items.{item_with}
use Rattle.mc_items.specs.ItemRefs.{item_stamp}
use Rattle.mc_items.specs.Keeping.{StoresNothing, StoresWithStamp}
use Rattle.mc_items.specs.declared.comparing.CompareError.{CompareError}
use Rattle.mc_items.specs.declared.comparing.CompareError.TheVariants as compare
use Rattle.mc_items.specs.declared.comparing.Expected.{Expected}
use Rattle.mc_items.specs.declared.comparing.Expected.TheVariants as expected
use Rattle.mc_items.specs.declared.setting.SetError.{SetError}
use Rattle.mc_items.specs.declared.setting.SetError.TheVariants.{NoMemory}
use Rattle.mc_items.specs.declared.within.SetWithinError.{SetWithinError}
use Rattle.mc_items.specs.declared.within.SetWithinError.TheVariants as set_within
use Rattle.mc_items.specs.declared.within.comparing.CompareWithinError.{CompareWithinError}
use Rattle.mc_items.specs.declared.within.comparing.CompareWithinError.TheVariants as compare_within
use Rattle.mc_shard.specs.declared.conditions.Outcome.{Outcome}
use Rattle.mc_shard.specs.declared.conditions.Outcome.TheVariants.{Stored, Exists, Missing}
use Rattle.mc_shard.specs.declared.conditions.When.{When}
use Rattle.mc_shard.specs.declared.conditions.When.TheVariants.{Absent, Present, Version}
use Rattle.mc_shard.specs.declared.looking.Seen.{Seen}
use Rattle.mc_shard.specs.declared.looking.Seen.TheVariants.{Nothing, OtherKey, Key}
use Rattle.mc_shard.specs.Finding.{FindsFull, FindsValue, FindsWords}
use Rattle.mc_shard.specs.Reading.{LeavesSlabs}
use Rattle.mc_shard.specs.Recording.{RecordsGetAtMost}
use Rattle.mc_shard.specs.Setting.{RecordsEvictionsAlone, RecordsSetBehindRoom, RefusesCompareBytes, SetsBehindRoom}
use Rattle.mc_shard.specs.Within.{MissesLock, RefusesCompareBytesWithin}

-- the item under the hash is of this key and this value, and has this version
abbrev pub FindsVersion : Setup → ℕ → List ℕ → List ℕ → ℕ → Hand → Type 0
FindsVersion setup hash key value version before = (finds : FindsValue setup hash key value before) × (option_map item_stamp finds.item ≡ Some version)

-- the item under the hash is of this key, has this version and a value, which was added behind the old bytes
abbrev pub ReturnsVersion : Setup → ℕ → List ℕ → ℕ → Hand → List ℕ → List ℕ → Type 0
ReturnsVersion setup hash key version before old new = (value : List ℕ) × FindsVersion setup hash key value version before × (new ≡ old ++ value)

-- the item under the hash is of another key, and has this stamp
pub record FindsOtherStamp (setup : Setup) (hash : ℕ) (key : List ℕ) (stamp : ℕ) (before : Hand) : Type 0 where
  pub words : List ℕ
  pub finds : FindsWords setup hash before (Some words)
  pub is_stamp : option_map item_stamp finds.item ≡ Some stamp
  pub other : ¬ IsPackingOf key words

-- what a look saw under the hash of a key: no item, one of another key, or the key's
abbrev pub Sees : Setup → ℕ → List ℕ → Seen → Hand → Type 0
Sees setup hash key Nothing before = FindsWords setup hash before None
Sees setup hash key (OtherKey stamp) before = FindsOtherStamp setup hash key stamp before
Sees setup hash key (Key stamp) before = (value : List ℕ) × FindsVersion setup hash key value stamp before

-- what the store has to find under the hash, where this was seen there; or what the set returns at once
abbrev pub expected_by : When → Seen → Result Expected Outcome
expected_by Absent Nothing = Ok expected.Nothing
expected_by Absent (OtherKey stamp) = Ok (expected.Item stamp)
expected_by Absent (Key stamp) = Err Exists
expected_by Present Nothing = Err Missing
expected_by Present (OtherKey stamp) = Err Missing
expected_by Present (Key stamp) = Ok expected.Something
expected_by (Version version) Nothing = Err Missing
expected_by (Version version) (OtherKey stamp) = Err Missing
expected_by (Version version) (Key stamp) = if stamp == version then Ok (expected.Item version) else Err Exists

-- what a set returns whose store returned this
abbrev pub outcome_of : Result ℕ CompareError → Result Outcome SetError
outcome_of (Ok stamp) = Ok (Stored stamp)
outcome_of (Err (compare.Refused error)) = Err error
outcome_of (Err (compare.Differs (Some stamp))) = Ok Exists
outcome_of (Err (compare.Differs None)) = Ok Missing

-- what a set within n tries returns whose store returned this
abbrev pub outcome_within : Result ℕ CompareWithinError → Result Outcome SetWithinError
outcome_within (Ok stamp) = Ok (Stored stamp)
outcome_within (Err (compare_within.Refused error)) = Err error
outcome_within (Err (compare_within.Differs (Some stamp))) = Ok Exists
outcome_within (Err (compare_within.Differs None)) = Ok Missing

-- the hand looked under the hash: it added a get to its own calls at most, and it stored and moved nothing
pub record LooksUnder (setup : Setup) (hash : ℕ) (before now : Hand) : Type 0 where
  pub calls : RecordsGetAtMost setup hash before now
  pub stores_nothing : StoresNothing (view before) (view now)
  pub slabs : LeavesSlabs (view before) (view now)
  pub number : hand_number now ≡ hand_number before

-- the value was stored under the key with this stamp, in place of what was expected, behind room that was made for it
pub record StoresExpected (expected : Expected) (number hash stamp : ℕ) (key value : List ℕ) (before now : Hand) : Type 0 where
  pub stores_words : StoresWithStamp (item_with hash stamp (packed_item key value)) stamp (view before) (view now)
  pub sets : SetsBehindRoom expected number hash stamp (packed_item key value) before now
  pub calls : RecordsSetBehindRoom number hash stamp before now

-- nothing was stored, and items were evicted at most
pub record StoresNoItem (number : ℕ) (before now : Hand) : Type 0 where
  pub evicts : RecordsEvictionsAlone number before now
  pub stores_nothing : StoresNothing (view before) (view now)

-- a store of the value under the key, where the hash has what is expected
abbrev pub TriesStore : Expected → ℕ → ℕ → List ℕ → List ℕ → Result ℕ CompareError → Hand → Hand → Type 0
TriesStore expected number hash key value (Ok stamp) before now = StoresExpected expected number hash stamp key value before now
TriesStore expected number hash key value (Err error) before now =
    RefusesCompareBytes expected number hash (packed_item key value) error before now × StoresNoItem number before now

-- the same, within n tries for each lock
abbrev pub TriesStoreWithin : ℕ → Expected → ℕ → ℕ → List ℕ → List ℕ → Result ℕ CompareWithinError → Hand → Hand → Type 0
TriesStoreWithin tries expected number hash key value (Ok stamp) before now = StoresExpected expected number hash stamp key value before now
TriesStoreWithin tries expected number hash key value (Err error) before now =
    RefusesCompareBytesWithin expected number tries hash (packed_item key value) error before now × StoresNoItem number before now

-- what came behind a look: the store, where it expects something, or nothing
abbrev pub DoesBehindLook : Result Expected Outcome → ℕ → ℕ → List ℕ → List ℕ → Result Outcome SetError → Hand → Hand → Type 0
DoesBehindLook (Ok expected) number hash key value result before now =
    (stored : Result ℕ CompareError) × (result ≡ outcome_of stored) × TriesStore expected number hash key value stored before now
DoesBehindLook (Err outcome) number hash key value result before now = (result ≡ Ok outcome) × (now ≡ before)

-- the same, within n tries for each lock
abbrev pub DoesBehindLookWithin : ℕ → Result Expected Outcome → ℕ → ℕ → List ℕ → List ℕ → Result Outcome SetWithinError → Hand → Hand → Type 0
DoesBehindLookWithin tries (Ok expected) number hash key value result before now =
    (stored : Result ℕ CompareWithinError) × (result ≡ outcome_within stored) × TriesStoreWithin tries expected number hash key value stored before now
DoesBehindLookWithin tries (Err outcome) number hash key value result before now = (result ≡ Ok outcome) × (now ≡ before)

-- the hand looked under the hash, and then did what the condition asks for
pub record SetsBehindLook (setup : Setup) (hash : ℕ) (key value : List ℕ) (when : When) (result : Result Outcome SetError) (before now : Hand) : Type 0 where
  pub seen : Seen
  pub sees : Sees setup hash key seen before
  pub between : Hand
  pub looks : LooksUnder setup hash before between
  pub does : DoesBehindLook (expected_by when seen) (hand_number before) hash key value result between now

-- the same, within n tries for each lock
pub record SetsBehindLookWithin (setup : Setup) (tries hash : ℕ) (key value : List ℕ) (when : When) (result : Result Outcome SetWithinError) (before now : Hand) : Type 0 where
  pub seen : Seen
  pub sees : Sees setup hash key seen before
  pub between : Hand
  pub looks : LooksUnder setup hash before between
  pub does : DoesBehindLookWithin tries (expected_by when seen) (hand_number before) hash key value result between now

-- a set on a condition: it looked and did what is asked, or there was no memory for the look
abbrev pub SetsIf : Setup → ℕ → List ℕ → List ℕ → When → Result Outcome SetError → Hand → Hand → Type 0
SetsIf setup hash key value when result before now =
    SetsBehindLook setup hash key value when result before now
    ⊎ ((result ≡ Err (NoMemory tt)) × FindsFull setup hash before now × LooksUnder setup hash before now)

-- the same, within n tries for each lock; or each try of the look missed
abbrev pub SetsIfWithin : Setup → ℕ → ℕ → List ℕ → List ℕ → When → Result Outcome SetWithinError → Hand → Hand → Type 0
SetsIfWithin setup tries hash key value when result before now =
    SetsBehindLookWithin setup tries hash key value when result before now
    ⊎ ((result ≡ Err (set_within.Refused (NoMemory tt))) × FindsFull setup hash before now × LooksUnder setup hash before now)
    ⊎ ((result ≡ Err set_within.Held) × MissesLock setup tries hash before now × LooksUnder setup hash before now)
