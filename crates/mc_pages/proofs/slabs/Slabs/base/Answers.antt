use Rattle.std.proofs.Common.{ℕ, replicate, take, ap, ◌∙◌}
use Rattle.mc_pages.specs.InOrder.{slabs_of}
use Rattle.mc_pages.specs.Base.{base_pages, pages_after_entries, never_granted}
use Rattle.mc_pages.proofs.GrantedPage.{length-owners}
use Rattle.mc_pages.proofs.Roomy.{accounted_there, same_state}
use Rattle.mc_pages.proofs.slabs.Slabs.base.Goals as goal

pub returns-clause-base : goal.returns-clause-base
returns-clause-base c =
    let slabs = slabs_of c.self.inside in
    let pages = c.self.invariant.base ∙ (c.self.inside.owners.ok.0 ∙ length-owners slabs c.self.invariant.order.accounted) in
    c.base.ensures
    ∙ (ap (λ (count : ℕ). pages_after_entries (replicate count never_granted) (take slabs.trimmed slabs.ledger)) pages
    ∙ ap base_pages (same_state c.self.view_is))

pub returns-clause-accounted : goal.returns-clause-accounted
returns-clause-accounted c = accounted_there c.self.inside c.self.view_is c.self.invariant
