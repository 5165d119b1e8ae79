-- Hands between two calls: what a line asks of its hand, and leaves of it.
use Rattle.std.specs.Prelude.{◌≡◌, List}
use Rattle.mc_words.specs.declared.arena.Arena.{Arena}
use Rattle.mc_words.specs.declared.hand.Hand.{Hand}
use Rattle.mc_words.specs.hand.Arenas.{IsHandOf, view}
use Rattle.mc_words.specs.hand.Observers.{hand_number}
use Rattle.mc_words.specs.hand.Ready.{IsReadyHandOf}
use Rattle.mc_items.specs.declared.refs.Ref.{Ref}
use Rattle.mc_items.specs.ItemRefs.{RefersToEach}
use Rattle.mc_words.specs.item.Refs.{HoldsTheSame}

-- the worker's hand is one of the arena's, may make any call, and holds what these references are to
pub record IsKeeping (arena : Arena) (hand : Hand) (kept : List Ref) : Type 0 where
  pub hand_is : IsReadyHandOf arena hand
  pub keeps : RefersToEach (view hand) kept

-- the hand may make any call after the call, too, has the same number, and holds what it held
pub record StaysHolding (arena : Arena) (before now : Hand) : Type 0 where
  pub hand_is : IsReadyHandOf arena now
  pub number : hand_number now ≡ hand_number before
  pub holdings : HoldsTheSame (view before) (view now)

-- the worker's hand may make any call after the call, too, has the same number, and holds what these references are to
pub record StaysKeeping (arena : Arena) (before now : Hand) (kept : List Ref) : Type 0 where
  pub hand_is : IsReadyHandOf arena now
  pub number : hand_number now ≡ hand_number before
  pub keeps : RefersToEach (view now) kept
