use Rattle.std.proofs.Common.{sym, ◌∙◌}
use Rattle.mc_stripe.proofs.Entries.{at_by_key}
use Rattle.mc_stripe.proofs.Tables.{by_key_take}
use Rattle.mc_stripe.proofs.index.take.Goals as goal

pub returns-clause-place : goal.returns-clause-place
returns-clause-place c = c.remove.ensures.value ∙ sym (at_by_key c.args.index.now.entries c.args.key)

pub returns-clause-entries : goal.returns-clause-entries
returns-clause-entries c = by_key_take c.args.index.now.entries c.remove.new.self.entries c.args.key (λ q. c.remove.ensures.updates.0 q)
