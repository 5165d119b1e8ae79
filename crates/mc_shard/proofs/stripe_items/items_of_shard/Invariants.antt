use Rattle.std.proofs.Common.{◌≡◌}
use Rattle.mc_words.specs.hand.Arenas.{setup_of, view}
use Rattle.mc_words.specs.hand.Observers.{hand_number}
use Rattle.mc_items.specs.Keeping.{StoresNothing}
use Rattle.mc_shard.specs.ClassItems.{AddsFound, FindsSizesBelow}
use Rattle.mc_shard.specs.Hands.{IsIdleHandOf}
use Rattle.mc_shard.specs.Reading.{LeavesSlabs}
use Rattle.mc_shard.proofs.stripe_items.items_of_shard.Given as goal

-- the items of the stripes so far were counted
abbrev pub invariant-loop-stripe : goal.invariant-loop-stripe
invariant-loop-stripe g l = record {
  idle : IsIdleHandOf l.arena l.hand;
  number : hand_number l.hand ≡ hand_number l.fn.hand;
  done : AddsFound (λ sizes. FindsSizesBelow (setup_of l.arena) l.stripe sizes l.fn.hand l.hand) (setup_of l.arena).table l.fn.rows l.rows;
  stores_nothing : StoresNothing (view l.fn.hand) (view l.hand);
  slabs : LeavesSlabs (view l.fn.hand) (view l.hand);
}
