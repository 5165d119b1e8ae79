-- Words of an item that a hand reads in place.
use Rattle.std.specs.Prelude.{◌≡◌, ◌+◌}
use Rattle.mc_words.specs.declared.arena.Arena.{Arena}
use Rattle.mc_words.specs.declared.hand.Hand.{Hand}
use Rattle.mc_words.specs.hand.Arenas.{IsHandOf, view}
use Rattle.mc_words.specs.hand.Observers.{hand_number}
use Rattle.mc_words.specs.hand.Ready.{IsReady}
use Rattle.mc_words.specs.hand.View.{View}
use Rattle.mc_items.specs.declared.refs.Ref.{Ref}
use Rattle.mc_items.specs.Calls.{RecordsNoCall}
use Rattle.mc_items.specs.ItemRefs.{IsItemRef, item_words}
use Rattle.mc_words.specs.item.Refs.{HoldsTheSame}
use Rattle.mc_items.specs.Keeping.{StoresNothing}

-- the hand is one of the arena's, may make any call, and refers to the item
pub record RefersTo (arena : Arena) (item : Ref) (hand : Hand) : Type 0 where
  pub of_arena : IsHandOf arena hand
  pub ready : IsReady (view hand)
  pub refers : IsItemRef (view hand) item

-- the hand took the lock of the slabs no more often than it had, so it made no item newer or older in its class
abbrev pub LeavesSlabs : View → View → Type 0
LeavesSlabs before now = now.row.knows.hold.count ≡ before.row.knows.hold.count

-- the hand took the lock of the slabs once more than it had
abbrev pub TakesSlabsOnce : View → View → Type 0
TakesSlabsOnce before now = now.row.knows.hold.count ≡ before.row.knows.hold.count + 1

-- the hand read words of the item, or none, and did nothing else
pub record OnlyReads (arena : Arena) (item : Ref) (before now : Hand) : Type 0 where
  pub hand : RefersTo arena item now
  pub number : hand_number now ≡ hand_number before
  pub words : item_words (view now) item ≡ item_words (view before) item
  pub holdings : HoldsTheSame (view before) (view now)
  pub stores_nothing : StoresNothing (view before) (view now)
  pub calls : RecordsNoCall (view before) (view now)
  pub slabs : LeavesSlabs (view before) (view now)
