use Rattle.mc_serial_laws.proofs.WholeReplies.{reply_whole}
use Rattle.mc_serial_laws.proofs.laws.replies_are_whole.Goals as goal

pub returns : goal.returns
returns c = reply_whole
