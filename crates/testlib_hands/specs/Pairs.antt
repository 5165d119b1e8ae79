-- Two hands: an arena of which both may make any call, and a thread's.
use Rattle.mc_words.specs.declared.arena.Arena.{Arena}
use Rattle.testlib_hands.specs.declared.hands.Pair.{Pair}
use Rattle.testlib_hands.specs.declared.hands.Two.{Two}
use Rattle.mc_words.specs.hand.Ready.{IsReadyHandOf}
use Rattle.testlib_hands.specs.Hands.{IsEmptyHandOf}

-- the two hands are hands of the arena that may make any call
abbrev pub AreReady : Two → Type 0
AreReady two = IsReadyHandOf two.arena two.hand × IsReadyHandOf two.arena two.other

-- the two hands are hands of this arena that another may take over
abbrev pub AreIdle : Arena → Pair → Type 0
AreIdle arena pair = IsEmptyHandOf arena pair.reader × IsEmptyHandOf arena pair.writer
