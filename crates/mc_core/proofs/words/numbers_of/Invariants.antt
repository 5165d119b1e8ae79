use Rattle.std.proofs.Common.{◌≡◌, take}
use Rattle.mc_core.specs.model.Holdings.{numbers_of_known}
use Rattle.mc_core.proofs.words.numbers_of.Given as goal

abbrev pub invariant-loop-word : goal.invariant-loop-word
invariant-loop-word l = l.found ≡ numbers_of_known (take l.word-index l.words)
