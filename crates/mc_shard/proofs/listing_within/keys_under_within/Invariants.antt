use Rattle.std.proofs.Common.{◌≡◌, ◌++◌, ℕ, List}
use Rattle.mc_words.specs.hand.Arenas.{setup_of, view}
use Rattle.mc_words.specs.hand.Observers.{hand_number}
use Rattle.mc_items.specs.Keeping.{StoresNothing}
use Rattle.mc_shard.specs.Hands.{IsIdleHandOf}
use Rattle.mc_shard.specs.Listing.{LooksUpFirst, bytes_of_keys}
use Rattle.mc_shard.specs.Reading.{LeavesSlabs}
use Rattle.mc_shard.proofs.listing_within.keys_under_within.Given as goal

-- the hashes so far were looked up
abbrev pub invariant-loop-hash : goal.invariant-loop-hash
invariant-loop-hash l = record {
  idle : IsIdleHandOf l.arena l.hand;
  number : hand_number l.hand ≡ hand_number l.fn.hand;
  done : (keys : List (List ℕ)) × LooksUpFirst (setup_of l.arena) l.hashes l.hash-index keys l.fn.hand l.hand × (bytes_of_keys l.into.items ≡ bytes_of_keys l.fn.into.items ++ keys);
  stores_nothing : StoresNothing (view l.fn.hand) (view l.hand);
  slabs : LeavesSlabs (view l.fn.hand) (view l.hand);
}
