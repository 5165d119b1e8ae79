use Rattle.std.proofs.Common.{◌∙◌, ap}
use Rattle.std.specs.Prelude.{nat_lt}
use Rattle.mc_serial_parts.proofs.holds.Holds.is_held.Goals as goal

pub returns : goal.returns
returns c = rw (← c.self.view_is) (record { held = ap (nat_lt 0) (c.of.ensures.count ∙ c.self.invariant.counted c.args.chunk) })
