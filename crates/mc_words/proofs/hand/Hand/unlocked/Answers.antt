use Rattle.std.proofs.Common.{◌∙◌}
use Rattle.mc_words.proofs.Locks.Unlocked.{unlocked_from}
use Rattle.mc_words.proofs.hand.Hand.unlocked.Goals as goal

pub returns : goal.returns
returns c = let a = c.args.self.now in record { unlocked = c.is_neither.ensures.neither ∙ unlocked_from a.seat.me.0 a.locks a.noted.4 }
