-- The page that a class gets next: nobody owned it before, and what its class has afterwards.
use Rattle.std.proofs.Common.{◌≡◌, ℕ, ◌-◌, ◌<◌, ◌||◌, inl, inr, Bool, true, false, List, length, set, Option, Some, None, refl, ap, sym, ◌∙◌, arith}
use Rattle.std.specs.Prelude.{nat_lt, if◌then◌else◌, slice_index_or}
use Rattle.std.specs.Option.{option_or}
use Rattle.std.proofs.lemmas.Bool.{cases_Bool}
use Rattle.std.proofs.lemmas.Option.{none-some, slice_get_past}
use Rattle.std.proofs.lemmas.List.Quantifiers.{position-Some}
use Rattle.mc_pages.specs.declared.ledger.Owner.{Owner}
use Rattle.mc_pages.specs.declared.ledger.Owner.TheVariants.{Untouched, Pool, Class, Moving}
use Rattle.mc_pages.specs.Ledger.{owner_at}
use Rattle.mc_pages.specs.ClassState.{ClassState, new_class, with_page}
use Rattle.mc_pages.specs.SlabState.{SlabState, class_at, class_of_owner, class_of_page, is_untouched, untouched_page}
use Rattle.mc_pages.specs.Accounted.{IsAccounted}
use Rattle.mc_pages.specs.Changes.{with_class, after_grant, after_take, after_grow, granted_page, has_ordinary_page, is_without_page, next_page, pooled_page}
use Rattle.mc_pages.proofs.KeptPages.{owner_of_pooled}
use Rattle.mc_pages.proofs.RoomyGrow.{next_untouched}
use Rattle.mc_pages.proofs.Owners.{within_from_owned}

-- whichever way the page comes, classes, owners, page size and limit are the same afterwards
classes-way : (b : Bool) (slabs : SlabState) (class page : ℕ)
    → (if b then after_take slabs class page else after_grant slabs class page).classes ≡ (with_class slabs class (with_page (class_at slabs class) page)).classes
classes-way true slabs class page = refl
classes-way false slabs class page = refl

pub classes-grown : (slabs : SlabState) (class page : ℕ) → (after_grow slabs class page).classes ≡ (with_class slabs class (with_page (class_at slabs class) page)).classes
classes-grown slabs class page = classes-way (nat_lt 0 (length slabs.pool)) slabs class page

owners-way : (b : Bool) (slabs : SlabState) (class page : ℕ)
    → (if b then after_take slabs class page else after_grant slabs class page).owners ≡ set slabs.owners page (Class class)
owners-way true slabs class page = refl
owners-way false slabs class page = refl

pub owners-grown : (slabs : SlabState) (class page : ℕ) → (after_grow slabs class page).owners ≡ set slabs.owners page (Class class)
owners-grown slabs class page = owners-way (nat_lt 0 (length slabs.pool)) slabs class page

page-way : (b : Bool) (slabs : SlabState) (class page : ℕ) → (if b then after_take slabs class page else after_grant slabs class page).page ≡ slabs.page
page-way true slabs class page = refl
page-way false slabs class page = refl

pub page-grown : (slabs : SlabState) (class page : ℕ) → (after_grow slabs class page).page ≡ slabs.page
page-grown slabs class page = page-way (nat_lt 0 (length slabs.pool)) slabs class page

limit-way : (b : Bool) (slabs : SlabState) (class page : ℕ) → (if b then after_take slabs class page else after_grant slabs class page).limit ≡ slabs.limit
limit-way true slabs class page = refl
limit-way false slabs class page = refl

pub limit-grown : (slabs : SlabState) (class page : ℕ) → (after_grow slabs class page).limit ≡ slabs.limit
limit-grown slabs class page = limit-way (nat_lt 0 (length slabs.pool)) slabs class page

-- nobody owns an untouched page
unowned : (owner : Owner) → is_untouched owner ≡ true → class_of_owner owner ≡ 0
unowned Untouched is = refl
unowned Pool is = refl
unowned (Class k) is = cc
unowned (Moving s d) is = cc

-- a page that is granted is the lowest untouched one
pub untouched_from_granted : (slabs : SlabState) (class page : ℕ) → granted_page slabs class ≡ Some page → untouched_page slabs ≡ Some page
untouched_from_granted slabs class page next =
    elim (cases_Bool (has_ordinary_page slabs || is_without_page slabs class)) [
      | inl may ↦ sym (ap (λ b. if b then untouched_page slabs else None) may) ∙ next
      | inr not ↦ absurd (none-some page (sym (ap (λ b. if b then untouched_page slabs else None) not) ∙ next))
    ]

-- so is the next page where the pool is empty
pub untouched_next : (slabs : SlabState) (class page : ℕ) → length slabs.pool ≡ 0 → next_page slabs class ≡ Some page → owner_at slabs.owners page ≡ Untouched
untouched_next slabs class page empty next =
    let given = sym (next_untouched slabs class (slice_get_past slabs.pool (length slabs.pool - 1) (omega arith))) ∙ next in
    untouched_is (owner_at slabs.owners page) (position-Some is_untouched slabs.owners page Untouched (untouched_from_granted slabs class page given)).1
  where
    untouched_is : (owner : Owner) → is_untouched owner ≡ true → owner ≡ Untouched
    untouched_is Untouched is = refl
    untouched_is Pool is = cc
    untouched_is (Class k) is = cc
    untouched_is (Moving s d) is = cc

-- nor one of the pool
nobody_way : (slabs : SlabState) (class page : ℕ) (pooled : Option ℕ) → IsAccounted slabs → pooled_page slabs ≡ pooled → option_or pooled (granted_page slabs class) ≡ Some page
    → (class_of_page slabs page ≡ 0) × (page < length slabs.owners)
nobody_way slabs class page None all pooled next =
    let fresh = position-Some is_untouched slabs.owners page Untouched (untouched_from_granted slabs class page next) in
    (unowned (owner_at slabs.owners page) fresh.1, fresh.0)
nobody_way slabs class page (Some last) all pooled next =
    let same : last ≡ page = cc in
    let owner = owner_of_pooled slabs page all (pooled ∙ ap Some same) in
    (ap class_of_owner owner, within_from_owned page slabs.owners (λ untouched. Pool≢Untouched (sym owner ∙ untouched)))
  where
    Pool≢Untouched : Pool ≡ Untouched → ⊥
    Pool≢Untouched h = cc

-- nobody owned the page that a class gets next
pub nobody_next : (slabs : SlabState) (class page : ℕ) → IsAccounted slabs → next_page slabs class ≡ Some page → (class_of_page slabs page ≡ 0) × (page < length slabs.owners)
nobody_next slabs class page all next = nobody_way slabs class page (pooled_page slabs) all refl next

-- each class is what it was, but for the page list of the one that got the page
pub class_at-grown : (slabs : SlabState) (class page other : ℕ) → class_at (after_grow slabs class page) other ≡ class_at (with_class slabs class (with_page (class_at slabs class) page)) other
class_at-grown slabs class page other = ap (λ (classes : List ClassState). slice_index_or classes (other - 1) (new_class 0 0)) (classes-grown slabs class page)
