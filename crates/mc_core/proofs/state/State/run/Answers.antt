use Rattle.std.proofs.Common.{◌∙◌, sym}
use Rattle.mc_core.proofs.Steps.Listed.{source_of_move}
use Rattle.mc_core.proofs.state.State.run.Goals as goal

pub per_page-requires : goal.per_page-requires
per_page-requires c = source_of_move c.self.inside.table c.self.inside.slabs.state c.in-Some.moving c.self.invariant.slabs (sym c.moving.ensures.moving ∙ c.in-Some.is)
