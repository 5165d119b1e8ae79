-- A page that a class gets, whose chunks are cut one after another.
use Rattle.std.proofs.Common.{◌≡◌, ℕ, ◌+◌, ◌-◌, ◌≤◌, Bool, true, false, List, [], ◌∷◌, length, Some, is_some, refl, sym, ap, subst, ◌∙◌, arith}
use Rattle.std.proofs.lemmas.List.{get_or-set_same, length-set}
use Rattle.std.specs.Prelude.{fold, if◌then◌else◌, nat_lt}
use Rattle.mc_pages.specs.declared.ids.ChunkId.{ChunkId}
use Rattle.mc_pages.specs.declared.ledger.Owner.{Owner}
use Rattle.mc_pages.specs.declared.ledger.Owner.TheVariants.{Untouched, Class}
use Rattle.mc_pages.specs.Accounted.{IsAccounted, first_chunks}
use Rattle.mc_pages.specs.Changes.{after_cut, after_grant, after_grow, after_take, next_page, with_class}
use Rattle.mc_pages.specs.ClassState.{ClassState, first_free, with_cut, with_page}
use Rattle.mc_pages.specs.Ledger.{owner_at}
use Rattle.mc_pages.specs.SlabState.{SlabState, HasClass, class_at, class_of_chunk, class_of_owner, class_of_page}
use Rattle.mc_pages.proofs.ClassChanges.{classes-cuts, owners-cuts}
use Rattle.mc_pages.proofs.Cuts.{chunk_at, cuts_more}
use Rattle.mc_pages.proofs.NextPage.{class_at-grown, classes-grown, nobody_next, owners-grown}
use Rattle.mc_pages.proofs.OneClass.{class_at-with_class_same}
use Rattle.mc_core.specs.declared.event.Step.TheVariants as step
use Rattle.mc_words.specs.page.Cuts.{CutsEach}
use Rattle.mc_words.specs.rule.Happens.{LawfulView}
use Rattle.mc_words.specs.hand.View.{View, made}
use Rattle.mc_words.proofs.Pages.Owners.{slabs_here}
use Rattle.example_calls.specs.Preparing.{has_prepared}
use Rattle.example_calls.proofs.Alone.{one_more}

-- the page is to be cut from its first chunk on
pub grown_uncut : (slabs : SlabState) (class page : ℕ) → (after_grow slabs class page).uncut ≡ Some (chunk_at page 0)
grown_uncut slabs class page = by (nat_lt 0 (length slabs.pool))
  where
    by : (b : Bool) → (if b then after_take slabs class page else after_grant slabs class page).uncut ≡ Some (chunk_at page 0)
    by true = refl
    by false = refl

-- it is the class's
given_own : (slabs : SlabState) (class page : ℕ) → IsAccounted slabs → next_page slabs class ≡ Some page → class_of_page (after_grow slabs class page) page ≡ class
given_own slabs class page all next =
    ap (λ (owners : List Owner). class_of_owner (owner_at owners page)) (owners-grown slabs class page)
    ∙ ap class_of_owner (get_or-set_same slabs.owners page (Class class) Untouched (nobody_next slabs class page all next).1)

-- it has as many chunks as each page of the class
pub per_page_given : (slabs : SlabState) (class page : ℕ) → IsAccounted slabs → HasClass slabs class → next_page slabs class ≡ Some page → (class_of_chunk (after_grow slabs class page) (chunk_at page 0)).per_page ≡ (class_at slabs class).per_page
per_page_given slabs class page all valid next =
    ap (λ n. (class_at (after_grow slabs class page) n).per_page) (given_own slabs class page all next)
    ∙ ap (λ (c : ClassState). c.per_page) (class_at-grown slabs class page class ∙ class_at-with_class_same slabs class (with_page (class_at slabs class) page) valid)

-- what is accounted for, and how many chunks a page of the class has
module _ (view : View) (was : LawfulView view) (slabs : SlabState) (mine : view.slabs ≡ Some slabs) where
  pub accounted_here : IsAccounted slabs
  accounted_here = subst IsAccounted (slabs_here view was slabs mine).1 was.lawful.paged.of_table.accounted

  pub some_here : (class : ℕ) → HasClass slabs class → 1 ≤ (class_at slabs class).per_page
  some_here class is =
      let same = (slabs_here view was slabs mine).1 in
      subst (λ (s : SlabState). 1 ≤ (class_at s class).per_page) same (was.lawful.paged.order.1.per_page class (subst (λ (s : SlabState). HasClass s class) (sym same) is))

-- each cut prepares
pub cuts_prepare : (chunks : List ChunkId) (view : View) (slabs : SlabState) (now : View) (left : SlabState) → CutsEach chunks view slabs now left → has_prepared view ≡ true → has_prepared now ≡ true
cuts_prepare [] view slabs now left (same, is) before = ap has_prepared same ∙ before
cuts_prepare (chunk ∷ chunks) view slabs now left (next, cuts, rest) before =
    cuts_prepare chunks next (after_cut slabs chunk) now left rest
    (ap has_prepared cuts.is ∙ one_more view.events (made [] (step.Cut chunk.page chunk.index)) before refl)

-- a chunk that was cut is free
cut_is_free : (slabs : SlabState) (class : ℕ) (chunk : ChunkId) → HasClass slabs class → class_of_page slabs chunk.page ≡ class → is_some (first_free (class_at (after_cut slabs chunk) class)) ≡ true
cut_is_free slabs class chunk is own =
    ap (λ (n : ℕ). is_some (first_free (class_at (with_class slabs n (with_cut (class_at slabs n) chunk)) class))) own
    ∙ ap (λ (c : ClassState). is_some (first_free c)) (class_at-with_class_same slabs class (with_cut (class_at slabs class) chunk) is)

-- after a page was cut there is a free chunk
free_after_cuts : (slabs : SlabState) (class page count : ℕ) → HasClass slabs class → class_of_page slabs page ≡ class → 1 ≤ count → is_some (first_free (class_at (fold after_cut slabs (first_chunks page count)) class)) ≡ true
free_after_cuts slabs class page count is own some =
    let first = first_chunks page (count - 1) in
    let before = fold after_cut slabs first in
    let there : HasClass before class = (is.0, subst (λ n. class ≤ n) (sym (classes-cuts slabs first)) is.1) in
    let owned : class_of_page before page ≡ class = ap (λ (owners : List Owner). class_of_owner (owner_at owners page)) (owners-cuts slabs first) ∙ own in
    let more : (count - 1) + 1 ≡ count = omega arith in
    ap (λ (n : ℕ). is_some (first_free (class_at (fold after_cut slabs (first_chunks page n)) class))) (sym more)
    ∙ (ap (λ (s : SlabState). is_some (first_free (class_at s class))) (sym (cuts_more slabs before page (count - 1) refl)) ∙ cut_is_free before class (chunk_at page (count - 1)) there owned)

-- so it is where the page was just granted
pub free_granted : (slabs : SlabState) (class page count : ℕ) → IsAccounted slabs → HasClass slabs class → next_page slabs class ≡ Some page → 1 ≤ count
    → is_some (first_free (class_at (fold after_cut (after_grow slabs class page) (first_chunks page count)) class)) ≡ true
free_granted slabs class page count all is next some =
    let long = ap length (classes-grown slabs class page) ∙ length-set slabs.classes (class - 1) (with_page (class_at slabs class) page) in
    free_after_cuts (after_grow slabs class page) class page count (is.0, subst (λ n. class ≤ n) (sym long) is.1) (given_own slabs class page all next) some
