-- Hands of the arenas of all shards, and what a call does on one of them.
use Rattle.std.specs.Prelude.{◌≡◌, ◌≤◌, ℕ, Bool, List, All, length, slice_get, slice_set, Some}
use Rattle.mc_packing.specs.Packing.{packed_item}
use Rattle.mc_words.specs.declared.arena.Arena.{Arena}
use Rattle.mc_words.specs.declared.hand.Hand.{Hand}
use Rattle.mc_words.specs.hand.Arenas.{setup_of, view}
use Rattle.mc_words.specs.item.Items.{item_with}
use Rattle.mc_words.specs.hand.Observers.{hand_number}
use Rattle.mc_items.specs.Keeping.{StoresWithStamp, StoresNothing}
use Rattle.mc_items.specs.declared.setting.SetError.{SetError}
use Rattle.mc_shard.specs.Finding.{DeletesKey, FindsFull, FindsKey, FindsLockTaken, FindsOtherKey, FindsValue, TouchesKey}
use Rattle.mc_shard.specs.Hands.{IsIdleHandOf, IsUnusedHandOf}
use Rattle.mc_shard.specs.Reading.{LeavesSlabs, TakesSlabsOnce}
use Rattle.mc_shard.specs.Recording.{RecordsDeleteAtMost, RecordsGetAtMost}
use Rattle.mc_items.specs.declared.comparing.Expected.TheVariants.{Anything}
use Rattle.mc_shard.specs.Setting.{RecordsEvictionsAlone, RecordsSetBehindRoom, RefusesBytes, SetsBehindRoom}
use Rattle.mc_cache.specs.Pairs.{ArePaired}

-- the list has one hand for each arena, an idle hand of that arena
abbrev pub AreIdleHands : List Arena → List Hand → Type 0
AreIdleHands arenas hands = ArePaired IsIdleHandOf arenas hands

-- the list has one hand for each arena, an idle hand of that arena that did nothing yet
abbrev pub AreUnusedHands : List Arena → List Hand → Type 0
AreUnusedHands arenas hands = ArePaired IsUnusedHandOf arenas hands

-- the arenas have the same size classes
abbrev pub HaveOneTable : List Arena → Type 0
HaveOneTable arenas =
    (first second : Arena) (low high : ℕ) → slice_get arenas low ≡ Some first → slice_get arenas high ≡ Some second → (setup_of first).table ≡ (setup_of second).table

-- each of these hands is an idle one of the arena that did nothing yet
abbrev pub AreUnusedHandsOf : Arena → List Hand → Type 0
AreUnusedHandsOf arena hands = All (IsUnusedHandOf arena) hands

-- the hand of one shard did this on its arena; the hands of the other shards are unchanged
pub record ActsOnShard (arenas : List Arena) (shard : ℕ) (Does : Arena → Hand → Hand → Type 0) (before now : List Hand) : Type 0 where
  pub arena : Arena
  pub is_arena : slice_get arenas shard ≡ Some arena
  pub hand : Hand
  pub is_hand : slice_get before shard ≡ Some hand
  pub after : Hand
  pub others : now ≡ slice_set before shard after
  pub does : Does arena hand after

-- a key has 1 to 250 bytes
abbrev pub IsKey : List ℕ → Type 0
IsKey key = (1 ≤ length key) × (length key ≤ 250)

-- the hand stored this value under the key, with a stamp of its own, and perhaps evicted items before; its own calls got no more than that
abbrev pub StoresValue : ℕ → List ℕ → List ℕ → Arena → Hand → Hand → Type 0
StoresValue hash key value arena hand now =
    (hand_number now ≡ hand_number hand) × ((stamp : ℕ) × StoresWithStamp (item_with hash stamp (packed_item key value)) stamp (view hand) (view now)
    × SetsBehindRoom Anything (hand_number hand) hash stamp (packed_item key value) hand now × RecordsSetBehindRoom (hand_number hand) hash stamp hand now)

-- the store of this value under the key was refused to the hand, whose own calls got evictions at most
abbrev pub RefusesValue : ℕ → List ℕ → List ℕ → SetError → Arena → Hand → Hand → Type 0
RefusesValue hash key value error arena hand now =
    (hand_number now ≡ hand_number hand) × RefusesBytes (hand_number hand) hash (packed_item key value) error hand now × RecordsEvictionsAlone (hand_number hand) hand now

-- the hand found the key with this value, and stored nothing
abbrev pub ReadsValue : ℕ → List ℕ → List ℕ → Arena → Hand → Hand → Type 0
ReadsValue hash key value arena hand now = FindsValue (setup_of arena) hash key value hand × StoresNothing (view hand) (view now)

-- the hand found the key, and stored nothing
abbrev pub FindsKeyInShard : ℕ → List ℕ → Arena → Hand → Hand → Type 0
FindsKeyInShard hash key arena hand now = FindsKey (setup_of arena) hash key hand × StoresNothing (view hand) (view now)

-- the hand found no item under the hash, or one of another key, and stored nothing
abbrev pub ReadsOther : ℕ → List ℕ → Arena → Hand → Hand → Type 0
ReadsOther hash key arena hand now = FindsOtherKey (setup_of arena) hash key hand × StoresNothing (view hand) (view now)

-- the hand found the key and stored nothing; it deleted the key, if the key was still there
abbrev pub DeletesThere : ℕ → List ℕ → Bool → Arena → Hand → Hand → Type 0
DeletesThere hash key there arena hand now = DeletesKey (setup_of arena) hash key there hand now × StoresNothing (view hand) (view now)

-- the hand found the key and touched it, and stored nothing
abbrev pub TouchesThere : ℕ → List ℕ → Arena → Hand → Hand → Type 0
TouchesThere hash key arena hand now = TouchesKey (setup_of arena) hash key hand now × StoresNothing (view hand) (view now)

-- the hand stored nothing
abbrev pub StoresNoMore : Arena → Hand → Hand → Type 0
StoresNoMore arena hand now = StoresNothing (view hand) (view now)

-- the hand stored nothing, and found at last that the hash's stripe records its calls and has no room for one more
abbrev pub LooksInVain : ℕ → Arena → Hand → Hand → Type 0
LooksInVain hash arena hand now = StoresNothing (view hand) (view now) × ((between : Hand) × FindsFull (setup_of arena) hash between now)

-- the hand touched nothing: it didn't take the slabs lock
abbrev pub TouchesNothing : Arena → Hand → Hand → Type 0
TouchesNothing arena hand now = LeavesSlabs (view hand) (view now)

-- the hand took the slabs lock once
abbrev pub TouchesOnce : Arena → Hand → Hand → Type 0
TouchesOnce arena hand now = TakesSlabsOnce (view hand) (view now)

-- the hand found the lock of the hash's stripe with another hand, perhaps after a hint led to nothing
abbrev pub FindsStripeLocked : ℕ → Arena → Hand → Hand → Type 0
FindsStripeLocked hash arena hand now = FindsLockTaken (setup_of arena) hash hand now

-- the hand keeps its number, and its own calls got a get of the hash, or no call
abbrev pub GetsAtMost : ℕ → Arena → Hand → Hand → Type 0
GetsAtMost hash arena hand now = (hand_number now ≡ hand_number hand) × RecordsGetAtMost (setup_of arena) hash hand now

-- the hand keeps its number, and its own calls got a get of the hash or none, and then a delete of the hash or none
abbrev pub DeletesAtMost : ℕ → Arena → Hand → Hand → Type 0
DeletesAtMost hash arena hand now = (hand_number now ≡ hand_number hand) × RecordsDeleteAtMost (setup_of arena) hash hand now
