use Rattle.std.proofs.Common.{◌∙◌}
use Rattle.mc_stripe.proofs.Tables.{by_key_same}
use Rattle.mc_stripe.proofs.index.reserve_one.Goals as goal

pub returns-clause-entries : goal.returns-clause-entries
returns-clause-entries c = c.give_half_back.ensures.entries ∙ by_key_same c.args.index.now.entries c.reserve_entries.new.map.entries c.reserve_entries.ensures.entries.2
