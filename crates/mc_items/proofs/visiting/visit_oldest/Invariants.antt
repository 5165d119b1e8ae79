use Rattle.std.proofs.Common.{◌≡◌, ◌≤◌, List, length, Some}
use Rattle.mc_words.specs.hand.Arenas.{IsHandOf, view}
use Rattle.mc_items.specs.declared.visiting.Visit.{Visit}
use Rattle.mc_items.specs.Visiting.{VisitsEach, evicted_count, freed_count, room_items}
use Rattle.mc_items.proofs.visiting.visit_oldest.Given as goal

-- these visits were made so far, and the tally counts them
abbrev pub invariant-loop : goal.invariant-loop
invariant-loop g l = record {
  arena : IsHandOf l.arena l.hand;
  locks : l.hand.locks ≡ l.fn.hand.locks;
  slabs : (view l.hand).slabs ≡ Some l.slabs.shared;
  visits : List Visit;
  count : length visits ≡ l.counter;
  each : VisitsEach l.fn.hand.number l.fn.class visits (view l.fn.hand) l.fn.slabs.shared (view l.hand) l.slabs.shared;
  evicted_is : evicted_count visits ≡ l.tally.evicted;
  freed_is : freed_count visits ≡ l.tally.freed;
  evictions_within_limit : l.tally.evicted ≤ room_items;
  freed_within_limit : l.tally.freed ≤ l.counter;
}
