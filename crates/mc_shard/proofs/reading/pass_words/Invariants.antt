use Rattle.std.proofs.Common.{◌^◌, ◌<◌, drop, get_or, ℕ}
use Rattle.mc_words.specs.hand.Arenas.{view}
use Rattle.mc_items.specs.ItemRefs.{item_words}
use Rattle.mc_shard.specs.Reading.{OnlyReads}
use Rattle.mc_shard.proofs.reading.pass_words.Given as goal

abbrev pub invariant-loop-place : goal.invariant-loop-place
invariant-loop-place l = record {
  reads : OnlyReads l.arena l.item l.fn.hand l.hand;
  fit : (k : ℕ) → k < l.place → get_or (drop l.begin (item_words (view l.fn.hand) l.item)) k 0 < 2 ^ 64;
}
