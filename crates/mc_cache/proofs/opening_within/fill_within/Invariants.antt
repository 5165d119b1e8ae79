use Rattle.std.proofs.Common.{◌≡◌, ◌+◌, All, length}
use Rattle.mc_cache.specs.Belonging.{HaveUnusedHands}
use Rattle.mc_cache.specs.Opening.{IsNewShard}
use Rattle.mc_cache.proofs.opening_within.fill_within.Given as goal

abbrev pub invariant-loop : goal.invariant-loop
invariant-loop l = record {
  shards : length l.arenas.items ≡ l.counter;
  count : length l.workers.items ≡ l.config.workers + 1;
  hands : HaveUnusedHands l.arenas.items l.workers.items;
  new : All (IsNewShard l.config) l.arenas.items;
}
