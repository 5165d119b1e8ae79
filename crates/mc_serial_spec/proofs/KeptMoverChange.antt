-- A step of the mover changes the lists of one class and the items, and the machine stays consistent.
use Rattle.std.proofs.Common.{◌≡◌, ◌≢◌, ℕ, ◌+◌, ◌-◌, ◌≤◌, List, length, inl, inr, refl, ap, sym, ◌∙◌, arith}
use Rattle.std.specs.Prelude.{map, slice_index_or}
use Rattle.std.proofs.lemmas.Bool.{cases_eq, cases_lt}
use Rattle.std.proofs.lemmas.List.{get_or-set_other}
use Rattle.mc_classes.specs.Classes.{Classes}
use Rattle.mc_pages.specs.declared.ids.ChunkId.{ChunkId}
use Rattle.mc_pages.specs.declared.ledger.Owner.{Owner}
use Rattle.mc_pages.specs.Ledger.{owner_at}
use Rattle.mc_pages.specs.ClassState.{ClassState, new_class, times_in}
use Rattle.mc_pages.specs.SlabState.{SlabState, HasClass, class_at, class_of_owner, class_of_page, class_of_chunk}
use Rattle.mc_pages.specs.Accounted.{IsAccounted}
use Rattle.mc_pages.specs.Changes.{with_class}
use Rattle.mc_pages.proofs.HandedOut.{class_of_placed}
use Rattle.mc_pages.proofs.OneClass.{length-with_class}
use Rattle.mc_serial_spec.specs.Items.{Items}
use Rattle.mc_serial_spec.specs.Consistent.{place_count, links_of_key, IsConsistent}
use Rattle.mc_pages.proofs.ClassChanges.{per_pages-with_class}

-- the lists of one class are other ones, and all else of the pages and chunks is as before
pub record ChangesClass (slabs new : SlabState) (class : ℕ) : Type 0 where
  pub classes : length new.classes ≡ length slabs.classes
  pub per_page : map (λ (c : ClassState). c.per_page) new.classes ≡ map (λ (c : ClassState). c.per_page) slabs.classes
  pub page : new.page ≡ slabs.page
  pub limit : new.limit ≡ slabs.limit
  pub uncut : new.uncut ≡ slabs.uncut
  pub owners : new.owners ≡ slabs.owners
  pub other : (n : ℕ) → n - 1 ≢ class - 1 → class_at new n ≡ class_at slabs n

-- one class is other
pub changes_class : (slabs : SlabState) (class : ℕ) (state : ClassState) → state.per_page ≡ (class_at slabs class).per_page
    → ChangesClass slabs (with_class slabs class state) class
changes_class slabs class state same = record {
  classes = length-with_class slabs class state;
  per_page = per_pages-with_class slabs class state same;
  page = refl;
  limit = refl;
  uncut = refl;
  owners = refl;
  other = λ n apart. get_or-set_other slabs.classes (class - 1) (n - 1) state (new_class 0 0) apart;
}

-- and so again
pub changes_again : (slabs new last : SlabState) (class : ℕ) → ChangesClass slabs new class → ChangesClass new last class → ChangesClass slabs last class
changes_again slabs new last class first then = record {
  classes = then.classes ∙ first.classes;
  per_page = then.per_page ∙ first.per_page;
  page = then.page ∙ first.page;
  limit = then.limit ∙ first.limit;
  uncut = then.uncut ∙ first.uncut;
  owners = then.owners ∙ first.owners;
  other = λ n apart. then.other n apart ∙ first.other n apart;
}

-- a chunk of another class's page isn't in a class's hand-out order
not_listed : (slabs : SlabState) (class : ℕ) (x : ChunkId) → IsAccounted slabs → HasClass slabs class → class_of_page slabs x.page ≢ class
    → times_in x (class_at slabs class).order ≡ 0
not_listed slabs class x accounted valid apart = elim (cases_lt (times_in x (class_at slabs class).order) 1) [
  | inl none ↦ omega (arith, none)
  | inr some ↦ absurd (apart (class_of_placed slabs class x accounted valid (omega (arith, some))))
]

-- a class's hand-out order gains and loses a chunk as often as the items do: all is kept
module _ (table : Classes) (slabs new : SlabState) (items new_items : Items) (class : ℕ)
    (kept : IsConsistent table slabs items) (valid : HasClass slabs class) (changes : ChangesClass slabs new class) (accounted : IsAccounted new)
    (balance : (x : ChunkId) → times_in x (class_at new class).order + place_count x items ≡ times_in x (class_at slabs class).order + place_count x new_items) where
  valid_new : (n : ℕ) → HasClass slabs n → HasClass new n
  valid_new n is = (is.0, omega (arith, is.1, changes.classes))

  valid_old : (n : ℕ) → HasClass new n → HasClass slabs n
  valid_old n is = (is.0, omega (arith, is.1, changes.classes))

  own_new : (x : ChunkId) → class_of_page new x.page ≡ class_of_page slabs x.page
  own_new x = ap (λ (owners : List Owner). class_of_owner (owner_at owners x.page)) changes.owners

  -- a chunk of another class's page has as many places as before
  places_other : (x : ChunkId) → class_of_page slabs x.page ≢ class → place_count x new_items ≡ place_count x items
  places_other x apart =
      omega (
        arith,
        balance x,
        not_listed slabs class x kept.accounted valid apart,
        not_listed new class x accounted (valid_new class valid) (λ same. apart (sym (own_new x) ∙ same)),
      )

  order_there : (n : ℕ) (x : ChunkId) → n - 1 ≡ class - 1
      → (times_in x (class_at new n).order ≡ times_in x (class_at new class).order) × (times_in x (class_at slabs n).order ≡ times_in x (class_at slabs class).order)
  order_there n x same = (
    ap (λ i. times_in x (slice_index_or new.classes i (new_class 0 0)).order) same,
    ap (λ i. times_in x (slice_index_or slabs.classes i (new_class 0 0)).order) same,
  )

  order_elsewhere : (n : ℕ) (x : ChunkId) → n - 1 ≢ class - 1 → times_in x (class_at new n).order ≡ times_in x (class_at slabs n).order
  order_elsewhere n x apart = ap (λ (c : ClassState). times_in x c.order) (changes.other n apart)

  handed_now : (x : ChunkId) → place_count x new_items ≤ times_in x (class_of_chunk new x).order
  handed_now x = rw (own_new x) (elim (cases_eq (class_of_page slabs x.page - 1) (class - 1)) [
    | inl same ↦
        let there = order_there (class_of_page slabs x.page) x same in
        omega (arith, there.0, there.1, balance x, kept.handed_out x)
    | inr apart ↦
        omega (
          arith,
          order_elsewhere (class_of_page slabs x.page) x apart,
          places_other x (λ same. apart (ap (λ n. n - 1) same)),
          kept.handed_out x,
        )
  ])

  stored_now : (n : ℕ) (x : ChunkId) → HasClass new n → times_in x (class_at new n).order ≤ place_count x new_items
  stored_now n x is = elim (cases_eq (n - 1) (class - 1)) [
    | inl same ↦
        let there = order_there n x same in
        omega (arith, there.0, there.1, balance x, kept.stored class x valid)
    | inr apart ↦ elim (cases_lt (times_in x (class_at new n).order) 1) [
      | inl none ↦ omega (arith, none)
      | inr some ↦
          let own : class_of_page new x.page ≡ n = class_of_placed new n x accounted is (omega (arith, some)) in
          let away : class_of_page slabs x.page ≢ class = λ same. apart (ap (λ k. k - 1) (sym own ∙ own_new x ∙ same)) in
          omega (arith, order_elsewhere n x apart, places_other x away, kept.stored n x (valid_old n is))
    ]
  ]

  pub kept_changed : ((key : ℕ) → links_of_key key new_items ≤ 1)
      → IsConsistent table new new_items
  kept_changed one_link = record {
    sound = kept.sound;
    classes = changes.classes ∙ kept.classes;
    per_page = changes.per_page ∙ kept.per_page;
    page = changes.page ∙ kept.page;
    limit = changes.limit ∙ kept.limit;
    whole = changes.uncut ∙ kept.whole;
    accounted = accounted;
    one_link = one_link;
    handed_out = handed_now;
    stored = stored_now;
  }
