use Rattle.std.proofs.Common.{sym, ◌∙◌}
use Rattle.mc_stripe.proofs.Entries.{at_by_key}
use Rattle.mc_stripe.proofs.index.place_in.Goals as goal

pub returns : goal.returns
returns c = c.copied.ensures ∙ (c.get.ensures.value ∙ sym (at_by_key c.args.index.now.entries c.args.key))
