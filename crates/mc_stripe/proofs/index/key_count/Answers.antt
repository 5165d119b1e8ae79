use Rattle.std.proofs.Common.{sym, ◌∙◌}
use Rattle.mc_stripe.proofs.Keys.{length-by_key}
use Rattle.mc_stripe.proofs.index.key_count.Goals as goal

pub returns-clause-count : goal.returns-clause-count
returns-clause-count c = c.len.ensures.len ∙ sym (length-by_key c.args.index.now.entries c.len.ensures.unique)
