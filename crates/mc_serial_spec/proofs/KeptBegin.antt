-- A machine stays consistent as a page begins to move: its chunks count as its class's, as before.
use Rattle.std.proofs.Common.{◌≡◌, ◌≢◌, ℕ, ◌≤◌, ◌<◌, ◌==◌, List, [], ◌∷◌, length, count_by, slice_index_or, true, Option, Result, Ok, Err, refl, ap, sym, ◌∙◌, arith, eqb, inl, inr}
use Rattle.std.specs.Prelude.{OnOk, OnErr, IfOk}
use Rattle.std.proofs.lemmas.Bool.{cases_Bool}
use Rattle.std.proofs.lemmas.Bool.Decides.{nat_tests}
use Rattle.std.proofs.lemmas.List.Sums.{sum_by-cons}
use Rattle.mc_classes.specs.Classes.{Classes}
use Rattle.mc_pages.specs.declared.ledger.Owner.TheVariants as owner
use Rattle.mc_pages.specs.declared.moves.Reassign.{Reassign}
use Rattle.mc_pages.specs.Ledger.{owner_at}
use Rattle.mc_pages.specs.ClassState.{times_in}
use Rattle.mc_pages.specs.SlabState.{SlabState, HasClass, class_at, class_of_owner, class_of_page}
use Rattle.mc_pages.specs.Accounted.{IsAccounted, is_of_class, truth}
use Rattle.mc_pages.specs.Answer.{answer_of, MayAnswer}
use Rattle.mc_pages.specs.Moves.{first_page, after_begin}
use Rattle.mc_pages.proofs.Owners.{class_of_owner-is_of_class, within_from_is_of_class, owner_at-set_same, owner_at-set_other}
use Rattle.mc_pages.proofs.Source.{source_is}
use Rattle.mc_serial_spec.specs.Items.{Items}
use Rattle.mc_serial_spec.specs.Consistent.{IsConsistent}

-- the first of some pages is one of them
first_counted : (pages : List ℕ) → 1 ≤ length pages → 1 ≤ count_by (λ p. p == slice_index_or pages 0 0) pages
first_counted [] some = absurd (omega arith)
first_counted (q ∷ pages) some = grind (arith, nat_tests, sum_by-cons (λ p. truth (p == q)) q pages)

-- the first page of a class is the class's
first_own : (slabs : SlabState) (class : ℕ) → IsAccounted slabs → HasClass slabs class → 1 ≤ length (class_at slabs class).pages
    → is_of_class class (owner_at slabs.owners (first_page slabs class)) ≡ true
first_own slabs class accounted valid some =
    let page : ℕ = first_page slabs class in
    elim (cases_Bool (is_of_class class (owner_at slabs.owners page))) [
      | inl own ↦ own
      | inr other ↦ absurd (omega (arith, accounted.pages class page valid, first_counted (class_at slabs class).pages some, ap truth other))
    ]

-- and it counts as the class's while it moves, and every other page as before
class_of_page-begun : (slabs : SlabState) (src : Option ℕ) (source dst p : ℕ) → IsAccounted slabs → answer_of slabs src dst ≡ Ok source
    → class_of_page (after_begin slabs src source dst) p ≡ class_of_page slabs p
class_of_page-begun slabs src source dst p accounted answer =
    let told = source_is slabs src source dst answer in
    let page : ℕ = first_page slabs source in
    let own : is_of_class source (owner_at slabs.owners page) ≡ true = first_own slabs source accounted told.0 (omega (arith, told.1)) in
    let within : page < length slabs.owners = within_from_is_of_class source page slabs.owners own in
    elim (cases_Bool (eqb p page)) [
      | inl same ↦
          let at : p ≡ page = grind (arith, nat_tests) in
          rw at (ap class_of_owner (owner_at-set_same slabs.owners page (owner.Moving source dst) within)
          ∙ sym (class_of_owner-is_of_class source (owner_at slabs.owners page) own))
      | inr differs ↦
          let apart : p ≢ page = grind (arith, nat_tests) in
          ap class_of_owner (owner_at-set_other slabs.owners page p (owner.Moving source dst) apart)
    ]

pub kept_begin : (table : Classes) (slabs : SlabState) (items : Items) (src : Option ℕ) (source dst : ℕ)
    → IsConsistent table slabs items → answer_of slabs src dst ≡ Ok source → IsAccounted (after_begin slabs src source dst)
    → IsConsistent table (after_begin slabs src source dst) items
kept_begin table slabs items src source dst kept answer accounted = record {
  sound = kept.sound;
  classes = kept.classes;
  per_page = kept.per_page;
  page = kept.page;
  limit = kept.limit;
  whole = kept.whole;
  accounted = accounted;
  one_link = kept.one_link;
  handed_out = λ x.
      let same : class_of_page (after_begin slabs src source dst) x.page ≡ class_of_page slabs x.page = class_of_page-begun slabs src source dst x.page kept.accounted answer in
      omega (arith, kept.handed_out x, ap (λ (class : ℕ). times_in x (class_at slabs class).order) same);
  stored = kept.stored;
}

-- whether a page began to move or not
module _ (table : Classes) (slabs new : SlabState) (items : Items) (src : Option ℕ) (dst : ℕ)
    (kept : IsConsistent table slabs items) (accounted : IsAccounted new) where
  kept_as : (answer : Result ℕ Reassign) (result : Result (Unit {0}) Reassign) → answer_of slabs src dst ≡ answer → MayAnswer answer result
      → OnOk result (IfOk answer (λ source. new ≡ after_begin slabs src source dst)) → OnErr result (new ≡ slabs) → IsConsistent table new items
  kept_as answer (Err refusal) is may began same = rw same kept
  kept_as (Ok source) (Ok unit) is may began same = rw began (kept_begin table slabs items src source dst kept is (rw began at accounted))
  kept_as (Err refusal) (Ok unit) is may began same = cc

  pub kept_reassign : (result : Result (Unit {0}) Reassign) → MayAnswer (answer_of slabs src dst) result
      → OnOk result (IfOk (answer_of slabs src dst) (λ source. new ≡ after_begin slabs src source dst)) → OnErr result (new ≡ slabs)
      → IsConsistent table new items
  kept_reassign result may began same = kept_as (answer_of slabs src dst) result refl may began same
