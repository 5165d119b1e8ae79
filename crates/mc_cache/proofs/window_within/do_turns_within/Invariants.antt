use Rattle.std.proofs.Common.{◌≡◌}
use Rattle.mc_words.specs.hand.Arenas.{view}
use Rattle.mc_shard.specs.Hands.{IsIdleHandOf}
use Rattle.mc_cache.proofs.TurnsDone.{AreDone}
use Rattle.mc_cache.proofs.window_within.do_turns_within.Given as goal

abbrev pub invariant-loop : goal.invariant-loop
invariant-loop l = record {
  idle : IsIdleHandOf l.arena l.hand;
  stores_nothing : (view l.hand).row.knows.stored ≡ (view l.fn.hand).row.knows.stored;
  done : AreDone l.counter l.fn.hand l.hand l.done;
}
