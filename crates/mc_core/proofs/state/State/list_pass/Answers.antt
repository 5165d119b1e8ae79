use Rattle.std.proofs.Common.{◌≡◌, true, refl, sym, subst}
use Rattle.mc_core.specs.model.InOrder.{callers_state}
use Rattle.mc_core.specs.model.State.{State}
use Rattle.mc_core.specs.run.Silent.{can_pass, run_of}
use Rattle.mc_core.proofs.Places.OfTable.{passed_shape}
use Rattle.mc_core.proofs.Steps.Asked.{pass_asked}
use Rattle.mc_core.proofs.Steps.Kept.{changed}
use Rattle.mc_core.proofs.state.State.list_pass.Goals as goal

pub passed-requires : goal.passed-requires
passed-requires c = (pass_asked c.self.inside.table c.self.inside.slabs.state c.args.found c.self.inside.slabs.state.moving c.self.invariant.slabs refl (subst (λ (state : State). can_pass state.slabs c.args.found (run_of state.table state.slabs.moving) ≡ true) (sym c.self.view_is) c.requires))

pub invariant_of-self : goal.invariant_of-self
invariant_of-self c = changed (callers_state c.self.inside) c.passed.new.self.state _ c.self.invariant c.passed.ensures.passed (passed_shape c.self.inside.slabs.state c.args.found) c.passed.ensures.accounted
