use Rattle.mc_classes.proofs.Sizes.{sound_table}
use Rattle.mc_classes.proofs.laws.sound_table.Goals as goal

pub returns : goal.returns
returns c = sound_table
