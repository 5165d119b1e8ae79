use Rattle.std.proofs.Common.{◌≡◌, Some}
use Rattle.mc_words.specs.hand.Arenas.{IsHandOf, view}
use Rattle.mc_mover.proofs.Rounds.{GoneThrough}
use Rattle.mc_mover.proofs.sections.sections.Given as goal

-- so many sections were gone through
abbrev pub invariant-loop : goal.invariant-loop
invariant-loop l = record {
  arena : IsHandOf l.arena l.hand;
  locks : l.hand.locks ≡ l.fn.hand.locks;
  held : (view l.hand).slabs ≡ Some l.held.shared;
  uncut : l.held.shared.uncut ≡ l.fn.held.shared.uncut;
  holdings : (view l.hand).row.holdings ≡ (view l.fn.hand).row.holdings;
  ids : (view l.hand).row.ids ≡ (view l.fn.hand).row.ids;
  gone : GoneThrough l.fn.hand.number l.counter l.counts l.sweep (view l.fn.hand) l.fn.held.shared (view l.hand) l.held.shared;
}
