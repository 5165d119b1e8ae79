-- How an item of bytes is stored, and why it isn't.
use Rattle.std.specs.Prelude.{◌≡◌, ◌⊎◌, ℕ, List, Option, None, Some}
use Rattle.mc_words.specs.declared.hand.Hand.{Hand}
use Rattle.mc_words.specs.hand.Arenas.{view}
use Rattle.mc_words.specs.hand.Observers.{hand_number}
use Rattle.mc_items.specs.Evicting.{RecordsEviction}
use Rattle.mc_items.specs.MakingRoom.{LacksRoomMemory, MakesRoom, RecordsSomeDeletes}
use Rattle.mc_items.specs.OnKeys.{ActsOnce}
use Rattle.mc_items.specs.Setting.{IsTooLarge, RecordsSet, RefusesCompare, RefusesSet, SetsItem, class_for_words}
use Rattle.mc_items.specs.declared.comparing.CompareError.{CompareError}
use Rattle.mc_items.specs.declared.comparing.CompareError.TheVariants.{Refused, Differs}
use Rattle.mc_items.specs.declared.comparing.Expected.{Expected}
use Rattle.mc_items.specs.declared.comparing.Expected.TheVariants.{Anything, Nothing, Something, Item}
use Rattle.mc_items.specs.declared.making_room.Room.{Room}
use Rattle.mc_items.specs.declared.making_room.Room.TheVariants.{Full}
use Rattle.mc_items.specs.declared.setting.SetError.{SetError}
use Rattle.mc_items.specs.declared.setting.SetError.TheVariants.{NoMemory, NoRoom, TooLarge, WornOut}

-- room was made in the class of these words; or no class has such chunks, and nothing was done
abbrev pub MakesRoomFor : List ℕ → Hand → Hand → Type 0
MakesRoomFor words before now =
    ((class_for_words (view before) words ≡ None) × (view now ≡ view before))
    ⊎ ((class : ℕ) × (class_for_words (view before) words ≡ Some class) × (room : Room) × ActsOnce (MakesRoom (hand_number before) class room) before now)

-- room was wanted in the class of these words, and there was no memory for that
abbrev pub LacksRoomFor : List ℕ → Hand → Hand → Type 0
LacksRoomFor words before now =
    (class : ℕ) × (class_for_words (view before) words ≡ Some class) × ActsOnce (LacksRoomMemory (hand_number before) class) before now

-- room was made in the class of these words, and then an item of them was stored under the hash, with this stamp, in place of what was
-- expected
pub record SetsBehindRoom (expected : Expected) (number hash stamp : ℕ) (words : List ℕ) (before now : Hand) : Type 0 where
  pub between : Hand
  pub makes : MakesRoomFor words before between
  pub sets : SetsItem expected number hash stamp words (view between) (view now)

-- the hand's own calls got deletes of keys that were there or none, and then the set, with an eviction before it at most
pub record RecordsSetBehindRoom (number hash stamp : ℕ) (before now : Hand) : Type 0 where
  pub between : Hand
  pub deletes : RecordsSomeDeletes number (view before) (view between)
  pub sets : RecordsSet number hash stamp (view between) (view now)

-- the hand's own calls got deletes of keys that were there or none, and then an eviction at most
pub record RecordsEvictionsAlone (number : ℕ) (before now : Hand) : Type 0 where
  pub between : Hand
  pub deletes : RecordsSomeDeletes number (view before) (view between)
  pub evicts : RecordsEviction number (view between) (view now)

-- room was made in the class of these words, and then the set of them was refused
pub record RefusesBehindRoom (number hash : ℕ) (words : List ℕ) (error : SetError) (before now : Hand) : Type 0 where
  pub between : Hand
  pub makes : MakesRoomFor words before between
  pub refuses : RefusesSet number hash words error (view between) (view now)

-- why a set of these words was refused: no class has chunks for them, and nothing was done; or room was made, and then the set was refused;
-- or there was no memory for the words, or for room in their class
abbrev pub RefusesBytes : ℕ → ℕ → List ℕ → SetError → Hand → Hand → Type 0
RefusesBytes number hash words TooLarge before now = IsTooLarge words (view before) (view now)
RefusesBytes number hash words NoRoom before now = RefusesBehindRoom number hash words NoRoom before now
RefusesBytes number hash words WornOut before now = RefusesBehindRoom number hash words WornOut before now
RefusesBytes number hash words (NoMemory _) before now =
    (view now ≡ view before) ⊎ LacksRoomFor words before now ⊎ RefusesBehindRoom number hash words (NoMemory tt) before now

-- room was made in the class of these words, and then the hash had this stamp or none, which isn't expected, so nothing was stored
pub record DiffersBehindRoom (expected : Expected) (found : Option ℕ) (number hash : ℕ) (words : List ℕ) (before now : Hand) : Type 0 where
  pub between : Hand
  pub makes : MakesRoomFor words before between
  pub differs : RefusesCompare expected number hash words (Differs found) (view between) (view now)

-- room was wanted in the class of these words, and none was found or made
abbrev pub FindsClassFull : List ℕ → Hand → Hand → Type 0
FindsClassFull words before now =
    (class : ℕ) × (class_for_words (view before) words ≡ Some class) × ActsOnce (MakesRoom (hand_number before) class Full) before now

-- a set expects an item, which is to stay until the set stores over it
abbrev pub AsksForItem : Expected → Type 0
AsksForItem Anything = ⊥
AsksForItem Nothing = ⊥
AsksForItem Something = Unit {0}
AsksForItem (Item stamp) = Unit {0}

-- why a set that expects something got no room: there was no memory; or it expects an item, which is to stay, and no other room was found
abbrev pub LacksRoom : Expected → List ℕ → SetError → Hand → Hand → Type 0
LacksRoom expected words error before now =
    ((error ≡ NoMemory tt) × LacksRoomFor words before now) ⊎ ((error ≡ NoRoom) × AsksForItem expected × FindsClassFull words before now)

-- why a set that expects something was refused: as a set that takes anything; where it expects an item, by a class with no other room; or by
-- what the hash had
abbrev pub RefusesCompareBytes : Expected → ℕ → ℕ → List ℕ → CompareError → Hand → Hand → Type 0
RefusesCompareBytes expected number hash words (Refused error) before now =
    RefusesBytes number hash words error before now ⊎ ((error ≡ NoRoom) × AsksForItem expected × FindsClassFull words before now)
RefusesCompareBytes expected number hash words (Differs found) before now = DiffersBehindRoom expected found number hash words before now
