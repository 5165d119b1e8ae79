use Rattle.std.proofs.Common.{◌≡◌, true, sym, subst}
use Rattle.mc_core.specs.model.InOrder.{callers_state}
use Rattle.mc_core.specs.model.State.{State}
use Rattle.mc_core.specs.run.Silent.{is_handed_out}
use Rattle.mc_core.proofs.Places.OfTable.{touch_shape}
use Rattle.mc_core.proofs.Steps.Listed.{Contains_from_among}
use Rattle.mc_core.proofs.Steps.Kept.{changed}
use Rattle.mc_core.proofs.state.State.list_touch.Goals as goal

pub touch-requires : goal.touch-requires
touch-requires c =
    Contains_from_among _ c.args.chunk (subst (λ (state : State). is_handed_out state.slabs c.args.chunk ≡ true) (sym c.self.view_is) c.requires)

pub invariant_of-self : goal.invariant_of-self
invariant_of-self c = changed (callers_state c.self.inside) c.touch.new.self.state _ c.self.invariant c.touch.ensures.touched (touch_shape c.self.inside.slabs.state c.args.chunk) c.touch.ensures.accounted
