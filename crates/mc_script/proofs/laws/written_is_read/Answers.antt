use Rattle.mc_script.proofs.Written.{written_again}
use Rattle.mc_script.proofs.laws.written_is_read.Goals as goal

pub returns : goal.returns
returns c = written_again
