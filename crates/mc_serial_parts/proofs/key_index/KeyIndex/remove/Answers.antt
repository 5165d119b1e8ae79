use Rattle.std.proofs.Common.{None}
use Rattle.mc_serial_parts.proofs.LeadsByKey.{led}
use Rattle.mc_serial_parts.proofs.key_index.KeyIndex.remove.Goals as goal

pub returns-clause-led : goal.returns-clause-led
returns-clause-led c = rw (← c.self.view_is) (led c.self.inside.chunks.entries c.remove.new.self.entries c.args.key None c.remove.ensures.updates.0)
