use Rattle.std.proofs.Common.{◌≡◌, true, refl, sym, subst}
use Rattle.mc_core.specs.model.InOrder.{callers_state}
use Rattle.mc_core.specs.model.State.{State}
use Rattle.mc_core.specs.run.Silent.{can_wrap, run_of}
use Rattle.mc_core.proofs.Places.OfTable.{wrap_shape}
use Rattle.mc_core.proofs.Steps.Asked.{wrap_asked}
use Rattle.mc_core.proofs.Steps.Kept.{changed}
use Rattle.mc_core.proofs.state.State.list_wrap.Goals as goal

pub wrap-requires : goal.wrap-requires
wrap-requires c = (wrap_asked c.self.inside.table c.self.inside.slabs.state c.self.inside.slabs.state.moving c.self.invariant.slabs refl (subst (λ (state : State). can_wrap (run_of state.table state.slabs.moving) ≡ true) (sym c.self.view_is) c.requires))

pub invariant_of-self : goal.invariant_of-self
invariant_of-self c = changed (callers_state c.self.inside) c.wrap.new.self.state _ c.self.invariant c.wrap.ensures.wrapped (wrap_shape c.self.inside.slabs.state) c.wrap.ensures.accounted
