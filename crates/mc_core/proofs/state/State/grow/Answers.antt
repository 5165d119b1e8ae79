use Rattle.std.proofs.Common.{refl}
use Rattle.mc_core.specs.model.InOrder.{callers_state}
use Rattle.mc_core.proofs.Steps.Kept.{changed, grown_shape}
use Rattle.mc_core.proofs.state.State.grow.Goals as goal

pub invariant_of-self : goal.invariant_of-self
invariant_of-self c =
    changed (callers_state c.self.inside) c.grow.new.self.state c.grow.new.self.state c.self.invariant refl
    (grown_shape c.grow.result c.self.inside.slabs.state c.grow.new.self.state c.args.class c.grow.ensures.given c.grow.ensures.refused) c.grow.ensures.accounted
