use Rattle.std.proofs.Common.{◌*◌, ◌-◌, ◌^◌, ◌<◌, [], drop, get_or, length, take, ℕ}
use Rattle.mc_packing.proofs.Loops.{ArePut}
use Rattle.mc_words.specs.hand.Arenas.{view}
use Rattle.mc_items.specs.ItemRefs.{item_words}
use Rattle.mc_shard.specs.Reading.{OnlyReads}
use Rattle.mc_shard.proofs.reading.write_value.Given as goal

abbrev pub invariant-loop-place : goal.invariant-loop-place
invariant-loop-place l = record {
  reads : OnlyReads l.arena l.item l.fn.hand l.hand;
  put : ArePut [] (length l.fn.room) (drop l.begin (item_words (view l.fn.hand) l.item)) (take (8 * l.place) l.room) (length l.fn.room - 8 * l.place) l.place;
  fit : (k : ℕ) → k < l.place → get_or (drop l.begin (item_words (view l.fn.hand) l.item)) k 0 < 2 ^ 64;
}
