use Rattle.std.proofs.Common.{◌≡◌, ◌≤◌}
use Rattle.mc_words.specs.hand.Arenas.{IsHandOf, view}
use Rattle.mc_words.specs.hand.Ready.{IsReady}
use Rattle.mc_serial_spec.specs.declared.turn.Ending.TheVariants.{Went}
use Rattle.mc_workers.proofs.TurnsDone.{HaveGone}
use Rattle.mc_workers.proofs.turns.do_turns.Given as goal

-- so many turns were done, and each went on
abbrev pub invariant-loop : goal.invariant-loop
invariant-loop g l = record {
  arena : IsHandOf l.arena l.hand;
  ready : IsReady (view l.hand);
  number : l.hand.number ≡ l.fn.hand.number;
  holdings : (view l.hand).row.holdings ≡ (view l.fn.hand).row.holdings;
  gone : HaveGone l.counter l.counts l.fn.mover l.fn.hand l.mover l.hand;
  went : 1 ≤ l.counter → l.ending ≡ Went;
}
