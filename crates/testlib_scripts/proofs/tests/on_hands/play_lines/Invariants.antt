use Rattle.std.proofs.Common.{All}
use Rattle.mc_words.specs.hand.Ready.{IsReadyHandOf}
use Rattle.mc_workers.specs.Hands.{IsKeeping}
use Rattle.testlib_scripts.proofs.tests.on_hands.play_lines.Given as goal

-- each seat is one
abbrev pub invariant-loop-command : goal.invariant-loop-command
invariant-loop-command g l = All (λ seat. IsKeeping l.arena seat.hand seat.kept.items) l.seats.items × IsReadyHandOf l.arena l.mover.hand
