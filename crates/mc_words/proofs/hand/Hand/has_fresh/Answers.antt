use Rattle.std.proofs.Common.{nat_lt, ap, ◌∙◌}
use Rattle.mc_words.proofs.Hands.Tallies.{fresh_any}
use Rattle.mc_words.proofs.hand.Hand.has_fresh.Goals as goal

pub returns : goal.returns
returns c = let a = c.args.self.now in record { fresh = ap (nat_lt 0) a.tallied.1 ∙ fresh_any a.seat.me.0.row.holdings }
