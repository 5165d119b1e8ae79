-- Hands of an arena between two calls.
use Rattle.mc_words.specs.declared.arena.Arena.{Arena}
use Rattle.mc_words.specs.declared.hand.Hand.{Hand}
use Rattle.mc_words.specs.hand.Arenas.{view}
use Rattle.mc_words.specs.hand.Ready.{IsReadyHandOf}
use Rattle.mc_items.specs.declared.refs.Ref.{Ref}
use Rattle.mc_items.specs.ItemRefs.{IsItemRef}

-- the hand is one of the arena's, may make any call, and refers to the item
pub record IsReadyWithRef (arena : Arena) (item : Ref) (hand : Hand) : Type 0 where
  pub ready : IsReadyHandOf arena hand
  pub refers : IsItemRef (view hand) item
