use Rattle.mc_words.proofs.Rules.Headlines.{held_stays_the_same}
use Rattle.mc_words.proofs.laws.held_stays_the_same.Goals as goal

pub returns : goal.returns
returns c = held_stays_the_same
