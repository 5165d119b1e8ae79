use Rattle.std.proofs.Common.{◌≡◌, ℕ, ◌+◌, ◌-◌, ◌/◌, length, nat_lt, ap, ap₂, ◌∙◌, arith}
use Rattle.mc_pages.specs.declared.slabs.Slabs.TheInside.{Inside}
use Rattle.mc_pages.specs.Changes.{has_ordinary_page}
use Rattle.mc_pages.specs.InOrder.{IsStoredInOrder, slabs_of}
use Rattle.mc_pages.proofs.GrantedPage.{length-owners}
use Rattle.mc_pages.proofs.States.{length-states}
use Rattle.mc_pages.proofs.Roomy.{same_state}
use Rattle.mc_pages.proofs.slabs.Slabs.has_ordinary_page.Goals as goal

-- there are as many pages as the limit has room for, and one for each class
pages : (slabs : Inside) → IsStoredInOrder slabs → length slabs.owners.items ≡ slabs.limit / slabs.page + length slabs.classes.items
pages slabs kept = length-owners (slabs_of slabs) kept.order.accounted ∙ ap (λ (n : ℕ). slabs.limit / slabs.page + n) (length-states slabs.rows slabs.classes.items)

pub overflow_sub-result : goal.overflow_sub-result
overflow_sub-result c = omega (arith, c.len.ensures, c.len-2.ensures, c.self.inside.owners.ok.0, c.self.inside.classes.ok.0, pages c.self.inside c.self.invariant)

pub returns : goal.returns
returns c =
    let room : c.len.result - c.len-2.result ≡ c.self.inside.limit / c.self.inside.page =
    omega (arith, c.len.ensures, c.len-2.ensures, c.self.inside.owners.ok.0, c.self.inside.classes.ok.0, pages c.self.inside c.self.invariant) in
    ap₂ nat_lt c.self.invariant.ordinary room ∙ ap has_ordinary_page (same_state c.self.view_is)
