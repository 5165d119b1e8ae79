use Rattle.std.proofs.Common.{◌∙◌}
use Rattle.mc_serial_parts.proofs.LeadsByKey.{same_set}
use Rattle.mc_serial_parts.proofs.key_index.KeyIndex.lead.Goals as goal

pub returns : goal.returns
returns c = rw (← c.self.view_is) (record { led = c.lead_to.ensures.led ∙ same_set c.args.key c.self.inside.chunks.entries c.args.chunk })
