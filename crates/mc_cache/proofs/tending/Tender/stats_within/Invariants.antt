use Rattle.std.proofs.Common.{◌≡◌, List, length}
use Rattle.mc_mover.specs.declared.numbers.Survey.{Survey}
use Rattle.mc_cache.specs.Resting.{TenderRestsIn}
use Rattle.mc_cache.specs.Stats.{SumsSurveys}
use Rattle.mc_cache.specs.Tending.{SayNothing, deciders_of, tender_hands}
use Rattle.mc_cache.proofs.EachShard.{AreSurveyed}
use Rattle.mc_cache.proofs.tending.Tender.stats_within.Given as goal

abbrev pub invariant-loop-shard : goal.invariant-loop-shard
invariant-loop-shard l = record {
  rests : TenderRestsIn l.cache l.self;
  stores_nothing : SayNothing (tender_hands l.fn.self) (tender_hands l.self);
  count : length (tender_hands l.fn.self) ≡ length (tender_hands l.self);
  deciders : deciders_of l.self ≡ deciders_of l.fn.self;
  done : (surveys : List Survey) × AreSurveyed l.shard (tender_hands l.fn.self) (tender_hands l.self) surveys × SumsSurveys surveys l.stats;
}
