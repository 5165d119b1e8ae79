-- A page that a class gets, and its chunks that are cut.
use Rattle.std.proofs.Common.{◌≡◌, ◌↔◌, ℕ, ◌+◌, ◌-◌, ◌≤◌, Bool, true, false, is_some, List, length, Option, Some, None, Result, Err, refl, sym, ap, subst, ◌∙◌, arith}
use Rattle.std.specs.Prelude.{⊤, fold, map}
use Rattle.std.proofs.lemmas.List.{get_or-set_same}
use Rattle.mc_pages.specs.declared.ids.ChunkId.{ChunkId}
use Rattle.mc_pages.specs.declared.ledger.Owner.{Owner}
use Rattle.mc_pages.specs.declared.ledger.Owner.TheVariants.{Untouched, Class}
use Rattle.mc_pages.specs.declared.slabs.pages.Grow.{Grow}
use Rattle.mc_pages.specs.declared.slabs.pages.Grow.TheVariants.{NoMemory, NoRoom}
use Rattle.mc_pages.specs.Accounted.{IsAccounted, first_chunks}
use Rattle.mc_pages.specs.Changes.{after_cut, after_grow, next_page}
use Rattle.mc_pages.specs.ClassState.{ClassState, first_free, with_cut, with_page}
use Rattle.mc_pages.specs.Ledger.{owner_at}
use Rattle.mc_pages.specs.SlabState.{SlabState, HasClass, class_at, class_of_chunk, class_of_owner, class_of_page}
use Rattle.mc_pages.proofs.Cuts.{chunk_at}
use Rattle.mc_pages.proofs.NextPage.{class_at-grown, nobody_next, owners-grown}
use Rattle.mc_pages.proofs.OneClass.{class_at-with_class_same}
use Rattle.mc_words.specs.hand.View.{View}
use Rattle.mc_words.specs.chunk.Sweeps.{with_seen}

-- the page that a class was given is the class's
pub given_own : (slabs : SlabState) (class page : ℕ) → IsAccounted slabs → next_page slabs class ≡ Some page → class_of_page (after_grow slabs class page) page ≡ class
given_own slabs class page all next =
    ap (λ (owners : List Owner). class_of_owner (owner_at owners page)) (owners-grown slabs class page)
    ∙ ap class_of_owner (get_or-set_same slabs.owners page (Class class) Untouched (nobody_next slabs class page all next).1)

pub per_page_grown : (slabs : SlabState) (class page : ℕ) → HasClass slabs class → (class_at (after_grow slabs class page) class).per_page ≡ (class_at slabs class).per_page
per_page_grown slabs class page valid =
    ap (λ (c : ClassState). c.per_page) (class_at-grown slabs class page class ∙ class_at-with_class_same slabs class (with_page (class_at slabs class) page) valid)

pub per_page_given : (slabs : SlabState) (class page : ℕ) → IsAccounted slabs → HasClass slabs class → next_page slabs class ≡ Some page → (class_of_chunk (after_grow slabs class page) (chunk_at page 0)).per_page ≡ (class_at slabs class).per_page
per_page_given slabs class page all valid next =
    ap (λ n. (class_at (after_grow slabs class page) n).per_page) (given_own slabs class page all next) ∙ per_page_grown slabs class page valid

-- the page is to be cut from its first chunk on
pub grown_uncut : (slabs : SlabState) (class page : ℕ) → (after_grow slabs class page).uncut ≡ Some (chunk_at page 0)
grown_uncut slabs class page = by (Rattle.std.specs.Prelude.nat_lt 0 (length slabs.pool))
  where
    by : (b : Bool) → (Rattle.std.specs.Prelude.if◌then◌else◌ b (Rattle.mc_pages.specs.Changes.after_take slabs class page) (Rattle.mc_pages.specs.Changes.after_grant slabs class page)).uncut ≡ Some (chunk_at page 0)
    by true = refl
    by false = refl

-- a chunk that was cut is free
cut_is_free : (slabs : SlabState) (class : ℕ) (chunk : ChunkId) → HasClass slabs class → class_of_page slabs chunk.page ≡ class → is_some (first_free (class_at (after_cut slabs chunk) class)) ≡ true
cut_is_free slabs class chunk is own =
    ap (λ (n : ℕ). is_some (first_free (class_at (Rattle.mc_pages.specs.Changes.with_class slabs n (with_cut (class_at slabs n) chunk)) class))) own
    ∙ ap (λ (c : ClassState). is_some (first_free c)) (class_at-with_class_same slabs class (with_cut (class_at slabs class) chunk) is)

-- after a page was cut there is a free chunk
pub free_after_cuts : (slabs : SlabState) (class page count : ℕ) → HasClass slabs class → class_of_page slabs page ≡ class → 1 ≤ count → is_some (first_free (class_at (fold after_cut slabs (first_chunks page count)) class)) ≡ true
free_after_cuts slabs class page count is own some =
    let before = fold after_cut slabs (first_chunks page (count - 1)) in
    let there : HasClass before class = (is.0, subst (λ n. class ≤ n) (sym (Rattle.mc_pages.proofs.ClassChanges.classes-cuts slabs (first_chunks page (count - 1)))) is.1) in
    let owned : class_of_page before page ≡ class = ap (λ (owners : List Owner). class_of_owner (owner_at owners page)) (Rattle.mc_pages.proofs.ClassChanges.owners-cuts slabs (first_chunks page (count - 1))) ∙ own in
    let more : (count - 1) + 1 ≡ count = omega arith in
    ap (λ (n : ℕ). is_some (first_free (class_at (fold after_cut slabs (first_chunks page n)) class))) (sym more)
    ∙ (ap (λ (s : SlabState). is_some (first_free (class_at s class))) (sym (Rattle.mc_pages.proofs.Cuts.cuts_more slabs before page (count - 1) refl)) ∙ cut_is_free before class (chunk_at page (count - 1)) there owned)

-- a class stays one where it gets a page
pub class_grown : (slabs : SlabState) (class page : ℕ) → HasClass slabs class → HasClass (after_grow slabs class page) class
class_grown slabs class page is =
    (is.0, subst (λ n. class ≤ n) (sym (ap length (Rattle.mc_pages.proofs.NextPage.classes-grown slabs class page) ∙ Rattle.std.proofs.lemmas.List.length-set slabs.classes (class - 1) (with_page (class_at slabs class) page))) is.1)

-- the change is seen alone
pub change_seen : (view : View) (slabs : SlabState) (change : Rattle.mc_core.specs.declared.event.Change.Change) (word : ℕ) (now : View) → now ≡ Rattle.mc_words.specs.hand.Views.slabs_changed slabs change word view → now ≡ with_seen view now
change_seen view slabs change word now is = is ∙ (λ k. with_seen view (sym is k))

-- first the one, then the other
pub seen_twice : (view next now : View) → next ≡ with_seen view next → now ≡ with_seen next now → now ≡ with_seen view now
seen_twice view next now first second = second ∙ ap (λ (v : View). with_seen v now) first

-- what is accounted for, and how many chunks a page of the class has
module _ (view : View) (was : Rattle.mc_words.specs.rule.Happens.LawfulView view) (slabs : SlabState) (mine : view.slabs ≡ Some slabs) where
  pub accounted_here : IsAccounted slabs
  accounted_here = subst IsAccounted (Rattle.mc_words.proofs.Pages.Owners.slabs_here view was slabs mine).1 was.lawful.paged.of_table.accounted

  pub some_here : (class : ℕ) → HasClass slabs class → 1 ≤ (class_at slabs class).per_page
  some_here class is =
      let same = (Rattle.mc_words.proofs.Pages.Owners.slabs_here view was slabs mine).1 in
      subst (λ (s : SlabState). 1 ≤ (class_at s class).per_page) same (was.lawful.paged.order.1.per_page class (subst (λ (s : SlabState). HasClass s class) (sym same) is))

-- a class that gets no page for want of memory has one to get, since that none is left is an error of its own
pub page_left : (got : Result ℕ Grow) (refused : ⊤) → got ≡ Err (NoMemory refused) → (next : Option ℕ) → ((got ≡ Err NoRoom) ↔ (next ≡ None)) → is_some next ≡ true
page_left got refused is None no_room = let none = no_room.1 refl in absurd (cc)
page_left got refused is (Some page) no_room = refl
