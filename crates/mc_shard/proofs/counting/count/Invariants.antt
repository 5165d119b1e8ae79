use Rattle.std.proofs.Common.{◌≡◌, ℕ, List}
use Rattle.mc_words.specs.hand.Arenas.{view}
use Rattle.mc_words.specs.hand.Observers.{hand_number}
use Rattle.mc_items.specs.Calls.{RecordsNoCall}
use Rattle.mc_items.specs.Keeping.{StoresNothing}
use Rattle.mc_shard.specs.Hands.{IsIdleHandOf}
use Rattle.mc_shard.specs.Reading.{LeavesSlabs}
use Rattle.mc_shard.specs.Walking.{CountsStripe, DoesFirst, saturated_sum}
use Rattle.mc_shard.proofs.counting.count.Given as goal

-- the stripes so far were counted
abbrev pub invariant-loop-stripe : goal.invariant-loop-stripe
invariant-loop-stripe g l = record {
  idle : IsIdleHandOf l.arena l.hand;
  number : hand_number l.hand ≡ hand_number l.fn.hand;
  done : (counts : List ℕ) × DoesFirst CountsStripe l.stripe counts (view l.fn.hand) (view l.hand) × (l.count ≡ saturated_sum counts);
  calls : RecordsNoCall (view l.fn.hand) (view l.hand);
  stores_nothing : StoresNothing (view l.fn.hand) (view l.hand);
  slabs : LeavesSlabs (view l.fn.hand) (view l.hand);
}
