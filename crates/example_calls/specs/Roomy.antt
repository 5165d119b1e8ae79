-- Room that a hand makes in a class before it sets an item.
use Rattle.std.specs.Prelude.{ℕ, List}
use Rattle.mc_words.specs.declared.hand.Hand.{Hand}
use Rattle.mc_words.specs.hand.Arenas.{view}
use Rattle.mc_words.specs.hand.Observers.{hand_number}
use Rattle.mc_items.specs.declared.making_room.Room.{Room}
use Rattle.mc_items.specs.MakingRoom.{MakesRoom, evicted_for}
use Rattle.mc_items.specs.OnKeys.{ActsOnce}
use Rattle.mc_items.specs.Setting.{SetsItem}
use Rattle.mc_items.specs.declared.comparing.Expected.TheVariants.{Anything}
use Rattle.mc_items.specs.Visiting.{RecordsDeletes}

-- room was made in this class, and then the item of this key and these words was set, with this stamp
pub record MakesRoomAndSets (class key : ℕ) (words : List ℕ) (before now : Hand) (stamp : ℕ) : Type 0 where
  pub between : Hand
  pub room : Room
  pub makes : ActsOnce (MakesRoom (hand_number before) class room) before between
  -- the calls that the hand made for that are deletes of the items that it evicted
  pub deletes : RecordsDeletes (hand_number before) (evicted_for room) (view before) (view between)
  pub sets : SetsItem Anything (hand_number before) key stamp words (view between) (view now)
