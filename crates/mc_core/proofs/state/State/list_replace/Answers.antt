use Rattle.std.proofs.Common.{◌≡◌, true, sym, subst}
use Rattle.mc_pages.specs.SlabState.{class_of_chunk}
use Rattle.mc_core.specs.model.InOrder.{callers_state}
use Rattle.mc_core.specs.model.State.{State}
use Rattle.mc_core.specs.run.Silent.{is_among, is_handed_out}
use Rattle.mc_core.proofs.Places.OfTable.{replace_shape}
use Rattle.mc_core.proofs.Steps.Listed.{Contains_from_among}
use Rattle.mc_core.proofs.Steps.Kept.{changed}
use Rattle.mc_core.proofs.state.State.list_replace.Goals as goal

pub replace-requires-clause-free : goal.replace-requires-clause-free
replace-requires-clause-free c =
    Contains_from_among _ c.args.chunk
    (subst (λ (state : State). is_among (class_of_chunk state.slabs c.args.old).free c.args.chunk ≡ true) (sym c.self.view_is) c.requires.free)

pub replace-requires-clause-handed_out : goal.replace-requires-clause-handed_out
replace-requires-clause-handed_out c =
    Contains_from_among _ c.args.old (subst (λ (state : State). is_handed_out state.slabs c.args.old ≡ true) (sym c.self.view_is) c.requires.handed_out)

pub invariant_of-self : goal.invariant_of-self
invariant_of-self c =
    changed (callers_state c.self.inside) c.replace.new.self.state _ c.self.invariant c.replace.ensures.replaced (replace_shape c.self.inside.slabs.state c.args.chunk c.args.old)
    c.replace.ensures.accounted
