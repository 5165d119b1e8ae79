use Rattle.std.proofs.Common.{subst}
use Rattle.mc_pages.specs.SlabState.{SlabState}
use Rattle.mc_pages.specs.Accounted.{IsMove}
use Rattle.mc_pages.proofs.Roomy.{same_state, accounted_there}
use Rattle.mc_pages.proofs.slabs.Slabs.moving.Goals as goal

pub returns-clause-accounted : goal.returns-clause-accounted
returns-clause-accounted c = accounted_there c.self.inside c.self.view_is c.self.invariant

pub returns-clause-is_move : goal.returns-clause-is_move
returns-clause-is_move c = λ move h.
    subst (λ (s : SlabState). IsMove s move) (same_state c.self.view_is) (c.self.invariant.order.accounted.move move h)
