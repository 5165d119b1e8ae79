use Rattle.std.proofs.Common.{◌≡◌, true, sym, subst}
use Rattle.mc_pages.specs.Pages.{is_on_the_move}
use Rattle.mc_pages.specs.SlabState.{class_of_page}
use Rattle.mc_core.specs.model.InOrder.{callers_state}
use Rattle.mc_core.specs.model.State.{State}
use Rattle.mc_core.specs.run.Silent.{is_listed}
use Rattle.mc_core.proofs.Places.OfTable.{clear_shape}
use Rattle.mc_core.proofs.Steps.Listed.{page_of_move, places_from_listed}
use Rattle.mc_core.proofs.Steps.Kept.{changed}
use Rattle.mc_core.proofs.state.State.list_clear.Goals as goal

pub clear-requires-clause-moving : goal.clear-requires-clause-moving
clear-requires-clause-moving c =
    page_of_move c.self.inside.slabs.state.moving c.args.chunk.page
    (subst (λ (state : State). is_on_the_move state.slabs c.args.chunk.page ≡ true) (sym c.self.view_is) c.requires.moving)

pub clear-requires-clause-listed : goal.clear-requires-clause-listed
clear-requires-clause-listed c =
    places_from_listed c.self.inside.slabs.state (class_of_page c.self.inside.slabs.state c.args.chunk.page) c.args.chunk
    (subst (λ (state : State). is_listed state.slabs (class_of_page state.slabs c.args.chunk.page) c.args.chunk ≡ true) (sym c.self.view_is) c.requires.listed)

pub invariant_of-self : goal.invariant_of-self
invariant_of-self c = changed (callers_state c.self.inside) c.clear.new.self.state _ c.self.invariant c.clear.ensures.cleared (clear_shape c.self.inside.slabs.state c.args.chunk) c.clear.ensures.accounted
