use Rattle.std.proofs.Common.{◌≡◌, ℕ, zero, suc, max, ◌≤◌, length, is_some, refl, sym, ap, ◌∙◌, inl, inr, arith}
use Rattle.std.proofs.lemmas.Bool.{cases_lt}
use Rattle.mc_pages.specs.Changes.{next_page}
use Rattle.mc_pages.specs.Ledger.{owner_at}
use Rattle.mc_pages.specs.SlabState.{SlabState, class_of_page}
use Rattle.mc_pages.specs.Accounted.{IsAccounted}
use Rattle.mc_pages.proofs.Owners.{is_of_class-class_of_owner}
use Rattle.mc_core.specs.model.State.{State}
use Rattle.mc_core.proofs.state.State.has_page_for.Goals as goal

-- no class is past the last one
class_few : (slabs : SlabState) (page : ℕ) → IsAccounted slabs → class_of_page slabs page ≤ length slabs.classes
class_few slabs page all =
    elim (cases_lt 0 (class_of_page slabs page)) [
      | inl some ↦ (all.owned (class_of_page slabs page) page (is_of_class-class_of_owner (class_of_page slabs page) (owner_at slabs.owners page) some refl)).1
      | inr none ↦ omega (arith, none)
    ]

pub has_page_for-requires : goal.has_page_for-requires
has_page_for-requires c =
    let within_limit = class_few c.self.inside.slabs.state c.args.page c.self.invariant.slabs.accounted in
    let is = c.class_of_page.ensures ∙ ap (λ (s : State). class_of_page s.slabs c.args.page) (sym c.self.view_is) in
    (omega (arith, c.max-class.ensures), omega (arith, c.max-class.ensures, is, within_limit, c.self.invariant.slabs.accounted.cursor.0, c.self.invariant.slabs.accounted.cursor.1))

-- class 0 is looked at as the first one
same_next : (slabs : SlabState) (class : ℕ) → next_page slabs (max class 1) ≡ next_page slabs class
same_next slabs zero = refl
same_next slabs (suc class) = ap (next_page slabs) (omega arith)

pub returns : goal.returns
returns c =
    let class = c.max-class.ensures ∙ ap (λ (n : ℕ). max n 1) c.class_of_page.ensures in
    c.has_page_for.ensures.page
    ∙ (ap (λ (n : ℕ). is_some (next_page c.self.inside.slabs.state n)) class
    ∙ (ap is_some (same_next c.self.inside.slabs.state (class_of_page c.args.self.now.slabs c.args.page))
    ∙ ap (λ (s : State). is_some (next_page s.slabs (class_of_page c.args.self.now.slabs c.args.page))) c.self.view_is))
