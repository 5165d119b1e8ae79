use Rattle.std.proofs.Common.{◌≡◌, ℕ, List, length}
use Rattle.mc_cache.specs.Resting.{ActsWhenRecalled, RestsIn}
use Rattle.mc_cache.specs.Walking.{CountsOwnShard}
use Rattle.mc_cache.specs.Tending.{SayNothing}
use Rattle.mc_cache.proofs.Walked.{AreWalked}
use Rattle.mc_shard.specs.Walking.{saturated_sum}
use Rattle.mc_cache.proofs.cache.Worker.len_within.Given as goal

-- the shards so far were walked over
abbrev pub invariant-loop-shard : goal.invariant-loop-shard
invariant-loop-shard l = record {
  rests : RestsIn l.cache l.self;
  stores_nothing : SayNothing l.fn.self.hands.items l.self.hands.items;
  count : length l.fn.self.hands.items ≡ length l.self.hands.items;
  done : (counts : List ℕ) × AreWalked (λ count. ActsWhenRecalled (CountsOwnShard count)) l.cache.arenas.items l.shard l.fn.self.hands.items l.self.hands.items counts × (l.count ≡ saturated_sum counts);
}
