use Rattle.std.proofs.Common.{◌≡◌, ℕ, ◌-◌, true, ◌||◌, List, length, slice_get, None, sym, ap, ◌∙◌, subst}
use Rattle.mc_pages.specs.SlabState.{SlabState, HasClass}
use Rattle.mc_pages.specs.Changes.{pooled_page, has_ordinary_page, is_without_page, next_page}
use Rattle.mc_pages.specs.InOrder.{slabs_of}
use Rattle.mc_pages.proofs.KeptPages.{may_be_granted}
use Rattle.mc_pages.proofs.RoomyGrow.{next_untouched, granted_page-is}
use Rattle.mc_pages.proofs.Roomy.{same_state}
use Rattle.mc_pages.proofs.slabs.Slabs.next_page.Goals as goal
use Rattle.mc_pages.proofs.slabs.Slabs.next_page.Goals.{then-has_ordinary_page-via-then-has_ordinary_page, then-has_ordinary_page-via-else-has_ordinary_page+then-is_without_page}

pub returns-then-has_ordinary_page-clause-page : goal.returns-then-has_ordinary_page-clause-page
returns-then-has_ordinary_page-clause-page c =
    let slabs = slabs_of c.self.inside in
    let state = same_state c.self.view_is in
    let is = subst (λ (s : SlabState). HasClass s c.args.class) (sym state) c.requires in
    let pooled : pooled_page slabs ≡ None = sym (c.in_default.ensures.value ∙ ap (λ (pages : List ℕ). slice_get pages (length pages - 1)) c.deref.ensures.value) in
    let ordinary = c.has_ordinary_page.ensures ∙ ap has_ordinary_page (sym state) in
    let may : may_be_granted slabs c.args.class ≡ true =
    elim c.then-has_ordinary_page.branch [
      | then-has_ordinary_page-via-then-has_ordinary_page w ↦ ap (λ b. b || is_without_page slabs c.args.class) (sym ordinary ∙ w.if-has_ordinary_page.true)
      | then-has_ordinary_page-via-else-has_ordinary_page+then-is_without_page w ↦
          ap (λ b. b || is_without_page slabs c.args.class) (sym ordinary ∙ w.if-has_ordinary_page.false)
          ∙ (ap (λ (s : SlabState). is_without_page s c.args.class) state ∙ (sym w.is_without_page.ensures ∙ w.if-is_without_page.true))
    ] in
    sym (granted_page-is slabs c.self.inside.granted c.args.class c.self.invariant.order is may)
    ∙ (sym (next_untouched slabs c.args.class pooled) ∙ ap (λ (s : SlabState). next_page s c.args.class) state)
