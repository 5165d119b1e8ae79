use Rattle.mc_packing.proofs.Loops.{IsWritten}
use Rattle.mc_packing.proofs.words.are_words_of.Given as goal

abbrev pub invariant-loop-word : goal.invariant-loop-word
invariant-loop-word l = IsWritten l.bytes l.words l.word-index l.rest
