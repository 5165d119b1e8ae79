use Rattle.std.proofs.Common.{◌≡◌, true, sym, ap, ◌∙◌, subst}
use Rattle.mc_pages.specs.Changes.{after_cut}
use Rattle.mc_core.specs.model.InOrder.{callers_state}
use Rattle.mc_core.specs.model.State.{State, with_slabs}
use Rattle.mc_core.specs.run.Chunks.{is_next_uncut}
use Rattle.mc_core.proofs.Places.OfTable.{cut_shape}
use Rattle.mc_core.proofs.Steps.Listed.{next_uncut_is}
use Rattle.mc_core.proofs.Steps.Kept.{changed}
use Rattle.mc_core.proofs.state.State.list_cut.Goals as goal

pub cut-requires : goal.cut-requires
cut-requires c =
    next_uncut_is c.self.inside.slabs.state.uncut c.args.chunk
    (subst (λ (state : State). is_next_uncut state.slabs c.args.chunk ≡ true) (sym c.self.view_is) c.requires)

pub invariant_of-self : goal.invariant_of-self
invariant_of-self c = changed (callers_state c.self.inside) c.cut.new.self.state _ c.self.invariant c.cut.ensures.cut (cut_shape c.self.inside.slabs.state c.args.chunk) c.cut.ensures.accounted

pub returns : goal.returns
returns c =
    ap (with_slabs (callers_state c.self.inside)) c.cut.ensures.cut ∙ ap (λ (state : State). with_slabs state (after_cut state.slabs c.args.chunk)) c.self.view_is
