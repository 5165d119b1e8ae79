use Rattle.std.proofs.Common.{◌≡◌, true, refl, sym, subst}
use Rattle.mc_core.specs.model.InOrder.{callers_state}
use Rattle.mc_core.specs.model.State.{State}
use Rattle.mc_core.specs.run.Silent.{can_finish}
use Rattle.mc_core.proofs.Places.OfTable.{finish_shape}
use Rattle.mc_core.proofs.Steps.Asked.{finish_asked}
use Rattle.mc_core.proofs.Steps.Kept.{changed}
use Rattle.mc_core.proofs.state.State.list_finish.Goals as goal

pub finish_move-requires-clause-whole : goal.finish_move-requires-clause-whole
finish_move-requires-clause-whole c = (finish_asked c.self.inside.table c.self.inside.slabs.state c.self.inside.slabs.state.moving c.self.invariant.slabs refl (subst (λ (state : State). can_finish state.slabs state.slabs.moving ≡ true) (sym c.self.view_is) c.requires)).0

pub finish_move-requires-clause-cleared : goal.finish_move-requires-clause-cleared
finish_move-requires-clause-cleared c = (finish_asked c.self.inside.table c.self.inside.slabs.state c.self.inside.slabs.state.moving c.self.invariant.slabs refl (subst (λ (state : State). can_finish state.slabs state.slabs.moving ≡ true) (sym c.self.view_is) c.requires)).1

pub invariant_of-self : goal.invariant_of-self
invariant_of-self c = changed (callers_state c.self.inside) c.finish_move.new.self.state _ c.self.invariant c.finish_move.ensures.finished (finish_shape c.self.inside.slabs.state c.self.inside.slabs.state.moving) c.finish_move.ensures.accounted
