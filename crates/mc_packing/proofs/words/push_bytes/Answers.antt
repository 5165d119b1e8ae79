use Rattle.std.proofs.Common.{arith}
use Rattle.mc_packing.proofs.Loops.{all_put, put_more}
use Rattle.mc_packing.proofs.words.push_bytes.Goals as goal

pub loop-word-preserved : goal.loop-word-preserved
loop-word-preserved c = record {
  put = rw c.push_word.ensures.bytes (put_more c.reserve.new.list.items c.args.count c.args.words.now c.loop-word.into.items c.loop-word.left c.saturating_sub-left.result c.loop-word.word-index (omega arith) (omega (arith, c.saturating_sub-left.ensures)) c.loop-word.invariant.put);
  room = omega (arith, c.push_word.ensures.len, c.push_word.ensures.capacity, c.loop-word.invariant.room);
}

pub returns-clause-bytes : goal.returns-clause-bytes
returns-clause-bytes c = rw c.reserve.ensures.items at (all_put c.reserve.new.list.items c.args.count c.args.words.now c.loop-word.into.items c.loop-word.left c.loop-word.word-index (omega arith) c.loop-word.invariant.put)
