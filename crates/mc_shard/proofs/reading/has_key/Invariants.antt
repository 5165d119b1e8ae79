use Rattle.mc_packing.specs.Packing.{key_words}
use Rattle.mc_packing.proofs.Loops.{IsWritten}
use Rattle.mc_words.specs.hand.Arenas.{view}
use Rattle.mc_items.specs.ItemRefs.{item_words}
use Rattle.mc_shard.specs.Reading.{OnlyReads}
use Rattle.mc_shard.proofs.reading.has_key.Given as goal

abbrev pub invariant-loop-place : goal.invariant-loop-place
invariant-loop-place l = record {
  reads : OnlyReads l.arena l.item l.fn.hand l.hand;
  same : IsWritten l.key (key_words l.key (item_words (view l.fn.hand) l.item)) l.place l.rest;
}
