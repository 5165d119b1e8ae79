use Rattle.std.proofs.Common.{◌≡◌, length}
use Rattle.mc_cache.specs.Resting.{TenderRestsIn}
use Rattle.mc_cache.specs.Stats.{SetsShardsMode}
use Rattle.mc_cache.specs.Tending.{SayNothing, deciders_of, tender_hands}
use Rattle.mc_cache.proofs.EachShard.{FirstDo}
use Rattle.mc_cache.proofs.tending.Tender.set_automove_within.Given as goal

abbrev pub invariant-loop-shard : goal.invariant-loop-shard
invariant-loop-shard l = record {
  rests : TenderRestsIn l.cache l.self;
  stores_nothing : SayNothing (tender_hands l.fn.self) (tender_hands l.self);
  count : length (tender_hands l.fn.self) ≡ length (tender_hands l.self);
  deciders : deciders_of l.self ≡ deciders_of l.fn.self;
  done : FirstDo (SetsShardsMode l.mode) l.shard (tender_hands l.fn.self) (tender_hands l.self);
}
