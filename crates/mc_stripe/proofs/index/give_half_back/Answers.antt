use Rattle.mc_stripe.proofs.Tables.{by_key_same}
use Rattle.mc_stripe.proofs.index.give_half_back.Goals as goal

pub returns-then-len-half-clause-entries : goal.returns-then-len-half-clause-entries
returns-then-len-half-clause-entries c = by_key_same c.args.index.now.entries c.shrink_to.new.self.entries c.shrink_to.ensures.entries.2
