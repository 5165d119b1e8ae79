use Rattle.mc_large.proofs.OwnValues.{got_parts_were_stored}
use Rattle.mc_large.proofs.laws.parts_were_stored.Goals as goal

pub returns : goal.returns
returns c = got_parts_were_stored
