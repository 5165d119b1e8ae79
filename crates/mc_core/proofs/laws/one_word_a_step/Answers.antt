use Rattle.mc_core.proofs.Frame.Effects.{write_one_word}
use Rattle.mc_core.proofs.laws.one_word_a_step.Goals as goal

pub returns : goal.returns
returns c = write_one_word
