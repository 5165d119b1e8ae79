use Rattle.mc_core.proofs.ItemWords.Numbers.{other_length}
use Rattle.mc_core.proofs.words.are_same.Goals as goal

pub returns-then-words-item : goal.returns-then-words-item
returns-then-words-item c = other_length c.args.words.now c.args.item.now c.if-words-item.true
