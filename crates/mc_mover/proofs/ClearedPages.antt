-- Chunks of the moving page that have left their class's lists.
use Rattle.std.proofs.Common.{◌≡◌, ℕ, ◌+◌, ◌≤◌, ◌&&◌, Bool, true, false, not, Some, refl, sym, ap, subst, ◌∙◌, inl, inr, arith}
use Rattle.std.proofs.lemmas.Bool.{and_parts, cases_Bool}
use Rattle.mc_pages.specs.declared.ids.ChunkId.{ChunkId}
use Rattle.mc_pages.specs.Accounted.{IsAccounted, is_cleared, is_cut, places_in, truth}
use Rattle.mc_pages.specs.Changes.{after_clear}
use Rattle.mc_pages.specs.ClassState.{ClassState, class_after_clear, times_in}
use Rattle.mc_pages.specs.SlabState.{HasClass, SlabState, class_of_chunk, class_of_page}
use Rattle.mc_pages.proofs.Chunks.{is_chunk-same}
use Rattle.mc_pages.proofs.Cleared.{truth-le_one}
use Rattle.mc_pages.proofs.HandedOut.{IsClass-placed}
use Rattle.mc_pages.proofs.Lists.{times-without_one}
use Rattle.mc_pages.proofs.OneClass.{class_at-with_class_same, length-with_class}
use Rattle.mc_pages.proofs.Redistributed.{is_cut-kept}
use Rattle.mc_core.specs.declared.head.Tag.{Tag}
use Rattle.mc_core.specs.declared.head.Tag.TheVariants.{Free, Linked, Out, Unlinked}
use Rattle.mc_core.specs.run.Chunks.{can_clear}
use Rattle.mc_core.specs.model.Head.{is_free, is_out}
use Rattle.mc_core.specs.model.State.{head_at}
use Rattle.mc_core.proofs.Steps.Listed.{places_from_listed}
use Rattle.mc_words.specs.hand.View.{View}
use Rattle.mc_words.specs.rule.Happens.{LawfulView}
use Rattle.mc_words.specs.page.Owner.{Clears}
use Rattle.mc_words.specs.hand.Views.{head_seen}
use Rattle.mc_words.proofs.Chunks.Judging.{seen_slabs}
use Rattle.mc_words.proofs.Locks.LockViews.{may_step}
use Rattle.mc_words.proofs.Pages.Owners.{slabs_here}

-- a chunk that was cleared away
cleared_after : (slabs : SlabState) (chunk : ChunkId) → IsAccounted slabs → IsAccounted (after_clear slabs chunk)
    → 1 ≤ places_in slabs (class_of_page slabs chunk.page) chunk → is_cleared (after_clear slabs chunk) (class_of_page slabs chunk.page) chunk ≡ true
cleared_after slabs chunk accounted after placed =
    let valid : HasClass slabs (class_of_page slabs chunk.page) = IsClass-placed slabs chunk accounted placed in
    let state : ClassState = class_of_chunk slabs chunk in
    let sum = accounted.chunks (class_of_page slabs chunk.page) chunk valid in
    let one : times_in chunk state.free + times_in chunk state.order ≡ 1 = omega (arith, sum, truth-le_one (is_cut slabs (class_of_page slabs chunk.page) chunk), placed) in
    let here = class_at-with_class_same slabs (class_of_page slabs chunk.page) (class_after_clear state chunk) valid in
    let places : places_in (after_clear slabs chunk) (class_of_page slabs chunk.page) chunk ≡ 0
    = ap (λ (c : ClassState). times_in chunk c.free + times_in chunk c.order) here
    ∙ omega (arith, times-without_one chunk chunk state.free state.order one, ap truth (is_chunk-same chunk)) in
    let cut : is_cut (after_clear slabs chunk) (class_of_page slabs chunk.page) chunk ≡ is_cut slabs (class_of_page slabs chunk.page) chunk
    = is_cut-kept slabs (after_clear slabs chunk) (class_of_page slabs chunk.page) chunk refl refl (ap (λ (c : ClassState). c.per_page) here) in
    let valid_after : HasClass (after_clear slabs chunk) (class_of_page slabs chunk.page)
    = (valid.0, omega (arith, valid.1, length-with_class slabs (class_of_page slabs chunk.page) (class_after_clear state chunk))) in
    let sum_after = after.chunks (class_of_page slabs chunk.page) chunk valid_after in
    elim (cases_Bool (is_cleared (after_clear slabs chunk) (class_of_page slabs chunk.page) chunk)) [
      | inl there ↦ there
      | inr still ↦ absurd (omega (arith, sum, sum_after, places, ap truth cut, ap truth still, placed))
    ]

accounted_in : (view : View) → LawfulView view → (slabs : SlabState) → view.slabs ≡ Some slabs → IsAccounted slabs
accounted_in view was slabs mine = subst IsAccounted (slabs_here view was slabs mine).1 was.lawful.paged.of_table.accounted

-- by the call that clears it
pub cleared_after_clear : (view now : View) (slabs left : SlabState) (class : ℕ) (chunk : ChunkId) → view.slabs ≡ Some slabs → now.slabs ≡ Some left → LawfulView now → Clears view slabs chunk now → left ≡ after_clear slabs chunk → class_of_page slabs chunk.page ≡ class → is_cleared left class chunk ≡ true
cleared_after_clear view now slabs left class chunk mine his was clears is own =
    let seen : View = head_seen chunk clears.head view in
    let seen_mine : seen.slabs ≡ Some slabs = seen_slabs view chunk clears.head slabs mine in
    let before = clears.happens.was in
    let here = (slabs_here seen before slabs seen_mine).1 in
    let may : can_clear before.moment.state before.hand chunk ≡ true = (may_step clears.happens).allowed in
    let listed = places_from_listed before.moment.state.slabs (class_of_page before.moment.state.slabs chunk.page) chunk (and_parts _ _ may).1 in
    let some : 1 ≤ places_in slabs (class_of_page slabs chunk.page) chunk = subst (λ (s : SlabState). 1 ≤ places_in s (class_of_page s chunk.page) chunk) here listed in
    let after = subst IsAccounted is (accounted_in now was left his) in
    (λ k. is_cleared (is k) (sym own k) chunk) ∙ cleared_after slabs chunk (accounted_in seen before slabs seen_mine) after some

-- or before, where its header was seen out
pub cleared_out : (view : View) (was : LawfulView view) (slabs : SlabState) → view.slabs ≡ Some slabs → (class : ℕ) (chunk : ChunkId) → HasClass slabs class → is_cut slabs class chunk ≡ true → is_out (head_at was.moment.state chunk).tag ≡ true → is_cleared slabs class chunk ≡ true
cleared_out view was slabs mine class chunk valid cut out =
    let here = (slabs_here view was slabs mine).1 in
    let valid' : HasClass was.moment.state.slabs class = subst (λ (s : SlabState). HasClass s class) (sym here) valid in
    let free = was.lawful.placed.free class chunk valid' in
    let order = was.lawful.placed.order class chunk valid' in
    let cut' : is_cut was.moment.state.slabs class chunk ≡ true = ap (λ (s : SlabState). is_cut s class chunk) here ∙ cut in
    let neither = out_alone (is_cut was.moment.state.slabs class chunk) (head_at was.moment.state chunk).tag out in
    let sum = was.lawful.paged.of_table.accounted.chunks class chunk valid' in
    let done : is_cleared was.moment.state.slabs class chunk ≡ true = elim (cases_Bool (is_cleared was.moment.state.slabs class chunk)) [
      | inl there ↦ there
      | inr still ↦ absurd (let none = ap truth still in let one = ap truth cut' in let a = neither.0 in let b = neither.1 in omega arith)
    ] in
    ap (λ (s : SlabState). is_cleared s class chunk) (sym here) ∙ done
  where
    out_alone : (b : Bool) (tag : Tag) → is_out tag ≡ true → (truth (b && is_free tag) ≡ 0) × (truth (b && (not (is_free tag) && not (is_out tag))) ≡ 0)
    out_alone true Out is = (refl, refl)
    out_alone false Out is = (refl, refl)
    out_alone b Free is = absurd (cc)
    out_alone b Unlinked is = absurd (cc)
    out_alone b Linked is = absurd (cc)
