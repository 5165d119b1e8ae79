-- An arena of which three hands may make any call.
use Rattle.mc_words.specs.declared.arena.Arena.{Arena}
use Rattle.mc_words.specs.declared.hand.Hand.{Hand}
use Rattle.mc_words.specs.hand.Ready.{IsReadyHandOf}

-- all three hands are hands of the arena that may make any call
abbrev pub AreReadyOf : Arena → Hand → Hand → Hand → Type 0
AreReadyOf arena hand reader looker = IsReadyHandOf arena hand × IsReadyHandOf arena reader × IsReadyHandOf arena looker
