use Rattle.std.proofs.Common.{◌≡◌}
use Rattle.mc_words.specs.hand.Arenas.{IsHandOf, view}
use Rattle.mc_words.specs.lock.Wait.{MissesSlabsEachTime}
use Rattle.mc_words.proofs.arena.Arena.slabs_within.Given as goal

-- each try so far missed
abbrev pub invariant-loop-missed : goal.invariant-loop-missed
invariant-loop-missed l = IsHandOf l.fn.self l.hand × (l.hand.locks ≡ l.fn.hand.locks) × MissesSlabsEachTime l._missed (view l.fn.hand) (view l.hand)
