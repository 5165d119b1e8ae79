-- Hands that may make any call, and those that are kept in a list.
use Rattle.std.specs.Prelude.{◌≡◌, List, [], ◌∷◌, ⊤}
use Rattle.mc_words.specs.declared.arena.Arena.{Arena}
use Rattle.mc_words.specs.declared.hand.Hand.{Hand}
use Rattle.mc_words.specs.hand.Arenas.{IsHandOf, view}
use Rattle.mc_words.specs.hand.View.{View}
use Rattle.mc_words.specs.hand.Ready.{IsReady, IsReadyHandOf}

-- the hand holds no chunk
abbrev pub HoldsNothing : View → Type 0
HoldsNothing view = view.row.holdings ≡ []

-- the hand is one of the arena's, may make any call, and holds no chunk, so that another may take it over
abbrev pub IsEmptyHandOf : Arena → Hand → Type 0
IsEmptyHandOf arena hand = IsReadyHandOf arena hand × HoldsNothing (view hand)

-- all these hands are hands of the arena that another may take over
abbrev pub AreEmptyHandsOf : Arena → List Hand → Type 0
AreEmptyHandsOf arena [] = ⊤
AreEmptyHandsOf arena (hand ∷ hands) = IsEmptyHandOf arena hand × AreEmptyHandsOf arena hands
