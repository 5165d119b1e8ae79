use Rattle.std.proofs.Common.{◌≡◌, length}
use Rattle.mc_cache.specs.Resting.{TenderRestsIn}
use Rattle.mc_cache.specs.Tending.{SayNothing, deciders_of, tender_hands}
use Rattle.mc_cache.specs.TendingWithin.{nothing_within, with_shard_window}
use Rattle.mc_cache.specs.WindowsWithin.{TendsShardWithin}
use Rattle.mc_cache.proofs.Tendings.{AreTended}
use Rattle.mc_cache.proofs.tending.Tender.tend_within.Given as goal

abbrev pub invariant-loop-shard : goal.invariant-loop-shard
invariant-loop-shard l = record {
  rests : TenderRestsIn l.cache l.self;
  stores_nothing : SayNothing (tender_hands l.fn.self) (tender_hands l.self);
  count : length (tender_hands l.fn.self) ≡ length (tender_hands l.self);
  done : AreTended (TendsShardWithin l.tries) with_shard_window nothing_within l.shard (tender_hands l.fn.self) (deciders_of l.fn.self) (tender_hands l.self) (deciders_of l.self) l.done;
}
