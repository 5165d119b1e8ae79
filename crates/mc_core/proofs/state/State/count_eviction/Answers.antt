use Rattle.mc_core.specs.model.InOrder.{callers_state}
use Rattle.mc_core.proofs.Places.OfTable.{evicted_shape}
use Rattle.mc_core.proofs.Steps.Kept.{changed}
use Rattle.mc_core.proofs.state.State.count_eviction.Goals as goal

pub invariant_of-self : goal.invariant_of-self
invariant_of-self c = changed (callers_state c.self.inside) c.evicted.new.self.state _ c.self.invariant c.evicted.ensures.evicted (evicted_shape c.self.inside.slabs.state c.args.class) c.evicted.ensures.accounted
