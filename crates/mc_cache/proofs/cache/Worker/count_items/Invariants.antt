use Rattle.std.proofs.Common.{◌≡◌, length}
use Rattle.mc_cache.specs.Belonging.{BelongsTo}
use Rattle.mc_cache.specs.ClassItems.{AddsItemsInFirst, TouchNothing}
use Rattle.mc_cache.specs.Tending.{SayNothing}
use Rattle.mc_cache.proofs.cache.Worker.count_items.Given as goal

-- the items of the shards so far were counted
abbrev pub invariant-loop-shard : goal.invariant-loop-shard
invariant-loop-shard g l = record {
  belongs : BelongsTo l.cache l.self;
  stores_nothing : SayNothing l.fn.self.hands.items l.self.hands.items;
  untouched : TouchNothing l.fn.self.hands.items l.self.hands.items;
  count : length l.fn.self.hands.items ≡ length l.self.hands.items;
  done : AddsItemsInFirst l.cache l.shard l.fn.rows l.rows l.fn.self.hands.items l.self.hands.items;
}
