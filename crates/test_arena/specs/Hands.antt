-- Hands that are kept in a list.
use Rattle.std.specs.Prelude.{List, All}
use Rattle.mc_words.specs.declared.arena.Arena.{Arena}
use Rattle.mc_words.specs.declared.hand.Hand.{Hand}
use Rattle.mc_words.specs.hand.Arenas.{IsHandOf}

-- all these hands are hands of the arena
abbrev pub AreHandsOf : Arena → List Hand → Type 0
AreHandsOf arena hands = All (IsHandOf arena) hands
