use Rattle.std.proofs.Common.{arith}
use Rattle.mc_packing.proofs.Loops.{whole_more}
use Rattle.mc_packing.proofs.words.write_whole_words.Goals as goal

pub loop-word-preserved : goal.loop-word-preserved
loop-word-preserved c =
    let split = rw c.unwrap.ensures at c.split_first_chunk.ensures.cases in
    whole_more c.args.bytes.now c.loop-word.into c.loop-word.word-index c.word_of.result c.loop-word.rest.now c.unwrap.result.0.now c.unwrap.result.1.now (omega arith) c.word_of.ensures split.0 split.1 split.2 c.loop-word.invariant
