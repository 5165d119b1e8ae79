use Rattle.std.proofs.Common.{◌≡◌, ◌≢◌, nat_lt, Bool, true, false, refl, sym, ap, ◌∙◌, subst}
use denote.Enum.Bare.{sameb}
use Rattle.mc_pages.specs.contracts.rows.Mark.{the_type}
use Rattle.mc_pages.specs.declared.rows.Mark.{Mark}
use Rattle.mc_pages.specs.declared.rows.Mark.TheVariants.{Unlisted, Free, HandedOut}
use Rattle.mc_pages.specs.ClassState.{times_in}
use Rattle.mc_pages.specs.SlabState.{SlabState, HasClass, class_of_page, class_of_chunk}
use Rattle.mc_pages.specs.Accounted.{is_cut}
use Rattle.mc_pages.specs.InOrder.{slabs_of}
use Rattle.mc_pages.proofs.Marks.{IsRow-cut, free_from_mark, not_free_from_mark}
use Rattle.mc_pages.proofs.Roomy.{same_state, accounted_there}
use Rattle.mc_pages.proofs.slabs.Slabs.is_free.Goals as goal

-- what the test for the mark of the free ones tells
tested : (mark : Mark) (b : Bool) → (mark ≡ Free → b ≡ true) → (mark ≢ Free → b ≡ false) → sameb the_type mark Free ≡ b
tested Free b is differs = sym (is refl)
tested Unlisted b is differs = sym (differs (λ h. cc h))
tested HandedOut b is differs = sym (differs (λ h. cc h))

pub mark-requires : goal.mark-requires
mark-requires c =
    let is = subst (λ (s : SlabState). HasClass s (class_of_page s c.args.chunk.page)) (sym (same_state c.self.view_is)) c.requires.class in
    let cut = subst (λ (s : SlabState). is_cut s (class_of_page s c.args.chunk.page) c.args.chunk ≡ true) (sym (same_state c.self.view_is)) c.requires.cut in
    IsRow-cut c.self.inside c.args.chunk c.self.invariant is cut

pub returns-clause-free : goal.returns-clause-free
returns-clause-free c =
    let is = subst (λ (s : SlabState). HasClass s (class_of_page s c.args.chunk.page)) (sym (same_state c.self.view_is)) c.requires.class in
    let told = tested c.mark.result (nat_lt 0 (times_in c.args.chunk (class_of_chunk (slabs_of c.self.inside) c.args.chunk).free))
    (λ h. free_from_mark c.self.inside c.args.chunk c.self.invariant (sym c.mark.ensures ∙ h))
    (λ h. not_free_from_mark c.self.inside c.args.chunk c.self.invariant is (λ e. h (c.mark.ensures ∙ e))) in
    c.eq.ensures ∙ (told ∙ ap (λ (s : SlabState). nat_lt 0 (times_in c.args.chunk (class_of_chunk s c.args.chunk).free)) (same_state c.self.view_is))

pub returns-clause-accounted : goal.returns-clause-accounted
returns-clause-accounted c = accounted_there c.self.inside c.self.view_is c.self.invariant
