use Rattle.std.proofs.Common.{◌≡◌, true, sym, subst}
use Rattle.mc_core.specs.model.InOrder.{callers_state}
use Rattle.mc_core.specs.model.State.{State, is_class}
use Rattle.mc_core.proofs.Places.OfTable.{pop_shape}
use Rattle.mc_core.proofs.Steps.Listed.{IsClass_from}
use Rattle.mc_core.proofs.Steps.Kept.{changed}
use Rattle.mc_core.proofs.state.State.list_pop.Goals as goal

pub pop-requires : goal.pop-requires
pop-requires c =
    IsClass_from c.self.inside.table c.self.inside.slabs.state c.args.class c.self.invariant.slabs
    (subst (λ (state : State). is_class state.table c.args.class ≡ true) (sym c.self.view_is) c.requires)

pub invariant_of-self : goal.invariant_of-self
invariant_of-self c = changed (callers_state c.self.inside) c.pop.new.self.state _ c.self.invariant c.pop.ensures.popped (pop_shape c.self.inside.slabs.state c.args.class) c.pop.ensures.accounted
