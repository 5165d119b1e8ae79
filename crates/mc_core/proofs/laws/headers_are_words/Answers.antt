use Rattle.mc_core.proofs.ItemWords.Codes.{are_one_word, all_are_sums}
use Rattle.mc_core.proofs.laws.headers_are_words.Goals as goal

pub returns-clause-one_word : goal.returns-clause-one_word
returns-clause-one_word c = are_one_word

pub returns-clause-sums : goal.returns-clause-sums
returns-clause-sums c = all_are_sums
