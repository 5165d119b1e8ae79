use Rattle.std.proofs.Common.{refl, sym, ap, ◌∙◌, subst}
use Rattle.mc_pages.specs.SlabState.{SlabState, HasClass, class_at}
use Rattle.mc_pages.proofs.RoomySlabs.{lists_at}
use Rattle.mc_pages.proofs.Roomy.{same_state, accounted_there}
use Rattle.mc_pages.proofs.slabs.Slabs.rows.Goals as goal

pub returns-clause-free : goal.returns-clause-free
returns-clause-free c =
    λ class is. (lists_at c.self.inside class _ (subst (λ (s : SlabState). HasClass s class) (sym (same_state c.self.view_is)) is) refl).0 ∙ ap (λ (s : SlabState). (class_at s class).free) (same_state c.self.view_is)

pub returns-clause-order : goal.returns-clause-order
returns-clause-order c =
    λ class is. (lists_at c.self.inside class _ (subst (λ (s : SlabState). HasClass s class) (sym (same_state c.self.view_is)) is) refl).1 ∙ ap (λ (s : SlabState). (class_at s class).order) (same_state c.self.view_is)

pub returns-clause-accounted : goal.returns-clause-accounted
returns-clause-accounted c = accounted_there c.self.inside c.self.view_is c.self.invariant
