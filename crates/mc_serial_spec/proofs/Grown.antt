-- A class gets a page.
use Rattle.std.proofs.Common.{◌≡◌, ℕ, ◌-◌, ◌/◌, ◌<◌, List, length, get_or, Some, refl, ap, sym, ◌∙◌, arith}
use Rattle.std.specs.Prelude.{fold}
use Rattle.std.proofs.lemmas.List.{get_or-set_same, get_or-map}
use Rattle.mc_classes.specs.Classes.{Classes, per_page_of}
use Rattle.mc_pages.specs.declared.ledger.Owner.{Owner}
use Rattle.mc_pages.specs.declared.ledger.Owner.TheVariants.{Untouched, Class}
use Rattle.mc_pages.specs.Ledger.{owner_at}
use Rattle.mc_pages.specs.ClassState.{ClassState, new_class, with_page}
use Rattle.mc_pages.specs.SlabState.{SlabState, HasClass, class_at, class_of_owner, class_of_chunk}
use Rattle.mc_pages.specs.Accounted.{IsAccounted, first_chunks}
use Rattle.mc_pages.specs.Changes.{after_grow, after_cut, next_page}
use Rattle.mc_serial_spec.specs.Items.{Items}
use Rattle.mc_serial_spec.specs.Consistent.{IsConsistent}
use Rattle.mc_serial_spec.specs.Machine.{Machine, with_new_page}
use Rattle.mc_pages.proofs.OneClass.{class_at-with_class_same}
use Rattle.mc_pages.proofs.Cuts.{chunk_at}
use Rattle.mc_pages.proofs.NextPage.{nobody_next, owners-grown, class_at-grown}

-- the chunks of a page are the table's
pub per_page_kept : (table : Classes) (slabs : SlabState) (items : Items) (class : ℕ)
    → IsConsistent table slabs items → HasClass slabs class → (class_at slabs class).per_page ≡ per_page_of table class
per_page_kept table slabs items class kept valid =
    let inside : class - 1 < length slabs.classes = omega (arith, valid.0, valid.1) in
    let inside_too : class - 1 < length table.sizes = omega (arith, kept.classes) in
    sym (get_or-map (λ (c : ClassState). c.per_page) slabs.classes (class - 1) (new_class 0 0) 0 inside)
    ∙ ap (λ ns. get_or ns (class - 1) 0) kept.per_page
    ∙ get_or-map (λ size. table.page / size) table.sizes (class - 1) 0 0 inside_too

-- a page that was just given to a class has as many chunks as the class's pages have
pub per_page_given : (slabs : SlabState) (class page : ℕ) → IsAccounted slabs → HasClass slabs class → next_page slabs class ≡ Some page
    → (class_of_chunk (after_grow slabs class page) (chunk_at page 0)).per_page ≡ (class_at slabs class).per_page
per_page_given slabs class page all valid next =
    let inside = (nobody_next slabs class page all next).1 in
    let own : owner_at (after_grow slabs class page).owners page ≡ Class class
    = ap (λ (owners : List Owner). owner_at owners page) (owners-grown slabs class page)
    ∙ get_or-set_same slabs.owners page (Class class) Untouched inside in
    let here : class_at (after_grow slabs class page) class ≡ with_page (class_at slabs class) page
    = class_at-grown slabs class page class ∙ class_at-with_class_same slabs class (with_page (class_at slabs class) page) valid in
    ap (λ owner. (class_at (after_grow slabs class page) (class_of_owner owner)).per_page) own
    ∙ ap (λ (c : ClassState). c.per_page) here

-- the class's chunks a page are as before
pub per_page_grown : (slabs : SlabState) (class page : ℕ) → HasClass slabs class → (class_at (after_grow slabs class page) class).per_page ≡ (class_at slabs class).per_page
per_page_grown slabs class page valid =
    ap (λ (c : ClassState). c.per_page) (class_at-grown slabs class page class ∙ class_at-with_class_same slabs class (with_page (class_at slabs class) page) valid)

-- the machine after a class got a page
pub new_page_view : (m : Machine) (slabs : SlabState) (class page per_page : ℕ) → next_page m.slabs class ≡ Some page
    → (class_at (after_grow m.slabs class page) class).per_page ≡ per_page
    → slabs ≡ fold after_cut (after_grow m.slabs class page) (first_chunks page per_page)
    → (record m { slabs = slabs }) ≡ with_new_page m class (next_page m.slabs class)
new_page_view m slabs class page per_page next same slabs_is = rw (next, slabs_is, same) refl
