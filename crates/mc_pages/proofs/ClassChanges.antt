-- What each change of the pages and chunks leaves as it was: the hand-out orders, the chunks a page, the owners, the sizes.
use Rattle.std.proofs.Common.{◌≡◌, ◌≢◌, ℕ, ◌+◌, ◌-◌, ◌<◌, List, [], ◌∷◌, length, get_or, Bool, true, false, cond, Some, refl, ap, sym, ◌∙◌, arith, eqb}
use Rattle.std.specs.Prelude.{fold, map, slice_get}
use Rattle.std.proofs.Math.Seq.{map-set_same}
use Rattle.std.proofs.lemmas.Bool.Decides.{nat_tests}
use Rattle.std.proofs.lemmas.List.{get_or-set_same, get_or-set_other, length-set}
use Rattle.std.proofs.lemmas.List.Sums.{sum_by-append}
use Rattle.mc_pages.specs.declared.ids.ChunkId.{ChunkId}
use Rattle.mc_pages.specs.ClassState.{ClassState, new_class, is_chunk, times_in, class_after_hand_out}
use Rattle.mc_pages.specs.SlabState.{SlabState, HasClass, class_at, class_of_page}
use Rattle.mc_pages.specs.Changes.{with_class, after_cut}
use Rattle.mc_pages.proofs.Chunks.{times-cons, is_chunk-same}

-- a change that leaves its class's hand-out order leaves all of them
order_step : (b : Bool) (slabs : SlabState) (class other : ℕ) (state : ClassState) → HasClass slabs other → state.order ≡ (class_at slabs class).order
    → eqb (other - 1) (class - 1) ≡ b → (class_at (with_class slabs class state) other).order ≡ (class_at slabs other).order
order_step true slabs class other state valid same is =
    let at : other - 1 ≡ class - 1 = grind (arith, nat_tests) in
    let inside : class - 1 < length slabs.classes = omega (arith, valid.0, valid.1) in
    let here : class_at (with_class slabs class state) other ≡ state = rw at (get_or-set_same slabs.classes (class - 1) state (new_class 0 0) inside) in
    ap (λ (c : ClassState). c.order) here ∙ same ∙ ap (λ i. (get_or slabs.classes i (new_class 0 0)).order) (sym at)
order_step false slabs class other state valid same is =
    let apart : other - 1 ≢ class - 1 = grind (arith, nat_tests) in
    ap (λ (c : ClassState). c.order) (get_or-set_other slabs.classes (class - 1) (other - 1) state (new_class 0 0) apart)

pub order-with_class : (slabs : SlabState) (class other : ℕ) (state : ClassState) → HasClass slabs other → state.order ≡ (class_at slabs class).order
    → (class_at (with_class slabs class state) other).order ≡ (class_at slabs other).order
order-with_class slabs class other state valid same = order_step (eqb (other - 1) (class - 1)) slabs class other state valid same refl

-- cutting chunks leaves the owners, the number of classes and the hand-out orders
pub owners-cuts : (slabs : SlabState) (chunks : List ChunkId) → (fold after_cut slabs chunks).owners ≡ slabs.owners
owners-cuts slabs [] = refl
owners-cuts slabs (c ∷ chunks) = owners-cuts (after_cut slabs c) chunks

pub classes-cuts : (slabs : SlabState) (chunks : List ChunkId) → length (fold after_cut slabs chunks).classes ≡ length slabs.classes
classes-cuts slabs [] = refl
classes-cuts slabs (c ∷ chunks) = classes-cuts (after_cut slabs c) chunks ∙ length-set slabs.classes _ _

pub order-cuts : (slabs : SlabState) (chunks : List ChunkId) (class : ℕ) → HasClass slabs class
    → (class_at (fold after_cut slabs chunks) class).order ≡ (class_at slabs class).order
order-cuts slabs [] class valid = refl
order-cuts slabs (c ∷ chunks) class valid =
    order-cuts (after_cut slabs c) chunks class (valid.0, rw (length-set slabs.classes _ _) valid.1)
    ∙ order-with_class slabs (class_of_page slabs c.page) class _ valid refl

-- the chunk that is popped stands once more in its class's hand-out order, and every other as often as before
pub handed-chunk : (x : ChunkId) (class : ClassState) (free : List ChunkId) → slice_get free 0 ≡ Some x → times_in x (class_after_hand_out class free).order ≡ times_in x class.order + 1
handed-chunk x class [] h = cc
handed-chunk x class (c ∷ free) h =
    let same : c ≡ x = cc in
    let one : times_in x (c ∷ []) ≡ 1 = rw same (rw (times-cons x x [], is_chunk-same x) refl) in
    omega (arith, one, sum_by-append (λ d. cond (is_chunk d x) 1 0) class.order (c ∷ []))

-- the chunks of a page, class by class, stay what they are
pub per_page-handed : (class : ClassState) (free : List ChunkId) → (class_after_hand_out class free).per_page ≡ class.per_page
per_page-handed class [] = refl
per_page-handed class (c ∷ free) = refl

pub per_pages-with_class : (slabs : SlabState) (class : ℕ) (state : ClassState) → state.per_page ≡ (class_at slabs class).per_page
    → map (λ (c : ClassState). c.per_page) (with_class slabs class state).classes ≡ map (λ (c : ClassState). c.per_page) slabs.classes
per_pages-with_class slabs class state same = map-set_same (λ (c : ClassState). c.per_page) slabs.classes (class - 1) state (new_class 0 0) same

pub per_pages-cuts : (slabs : SlabState) (chunks : List ChunkId)
    → map (λ (c : ClassState). c.per_page) (fold after_cut slabs chunks).classes ≡ map (λ (c : ClassState). c.per_page) slabs.classes
per_pages-cuts slabs [] = refl
per_pages-cuts slabs (c ∷ chunks) = per_pages-cuts (after_cut slabs c) chunks ∙ per_pages-with_class slabs (class_of_page slabs c.page) _ refl

pub page-cuts : (slabs : SlabState) (chunks : List ChunkId) → (fold after_cut slabs chunks).page ≡ slabs.page
page-cuts slabs [] = refl
page-cuts slabs (c ∷ chunks) = page-cuts (after_cut slabs c) chunks

pub limit-cuts : (slabs : SlabState) (chunks : List ChunkId) → (fold after_cut slabs chunks).limit ≡ slabs.limit
limit-cuts slabs [] = refl
limit-cuts slabs (c ∷ chunks) = limit-cuts (after_cut slabs c) chunks
