use Rattle.std.proofs.Common.{◌≡◌, length}
use Rattle.mc_cache.specs.Tending.{IsTenderOf, SayNothing, deciders_of, tended_with, tender_hands}
use Rattle.mc_cache.specs.Windows.{TendsShard, nothing_tended}
use Rattle.mc_cache.proofs.Tendings.{AreTended}
use Rattle.mc_cache.proofs.tending.Tender.tend.Given as goal

abbrev pub invariant-loop-shard : goal.invariant-loop-shard
invariant-loop-shard g l = record {
  tender : IsTenderOf l.cache l.self;
  stores_nothing : SayNothing (tender_hands l.fn.self) (tender_hands l.self);
  count : length (tender_hands l.fn.self) ≡ length (tender_hands l.self);
  done : AreTended TendsShard tended_with nothing_tended l.shard (tender_hands l.fn.self) (deciders_of l.fn.self) (tender_hands l.self) (deciders_of l.self) l.done;
}
