use Rattle.mc_packing.proofs.Loops.{IsWrittenWhole}
use Rattle.mc_packing.proofs.words.write_whole_words.Given as goal

abbrev pub invariant-loop-word : goal.invariant-loop-word
invariant-loop-word l = IsWrittenWhole l.bytes l.into l.word-index l.rest
