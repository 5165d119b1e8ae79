use Rattle.std.proofs.Common.{All}
use Rattle.mc_words.specs.hand.Hands.{AreHandsFrom}
use Rattle.mc_workers.specs.Hands.{IsKeeping}
use Rattle.testlib_scripts.proofs.tests.seats.seats_of.Given as goal

-- the hands that are left are those of the next workers, and each seat so far is one
abbrev pub invariant-loop-worker : goal.invariant-loop-worker
invariant-loop-worker l = AreHandsFrom l.arena l.worker l.hands.items × All (λ seat. IsKeeping l.arena seat.hand seat.kept.items) l.seats.items
