-- Owners: what class they name, and how many pages were granted.
use Rattle.std.proofs.Common.{◌≡◌, ◌≢◌, ℕ, ◌+◌, ◌-◌, ◌<◌, ◌≤◌, true, false, not, List, [], ◌∷◌, length, count_by, Some, None, refl, sym, ap, ◌∙◌, inl, inr, arith, position, set, ◌==◌, eqb, get_or-set_same, get_or-set_other, length-set, eqb-true, eq-eqb, lt-ltb, le-ltb, ne_eqb, subst, zero, suc, take, add-one, add-zero, le_refl, le-add_right, take_all}
use Rattle.std.specs.List.{position_or_len, list_any}
use Rattle.std.proofs.lemmas.Bool.{cases_eq, cases_lt, or_cases, not-true, false≢true}
use Rattle.std.proofs.lemmas.Bool.Decides.{eqb_tells}
use Rattle.std.proofs.lemmas.List.{get_or_past}
use Rattle.std.specs.List.{IsDistinct, AllByRecursion}
use Rattle.std.proofs.lemmas.List.Sums.{sum_by-cons, position_or_len_is, count_by_more_yes, count_by_more_no}
use Rattle.std.proofs.lemmas.Map.Steps.{length-le_from_distinct_below}
use Rattle.mc_pages.specs.declared.ledger.Owner.{Owner}
use Rattle.mc_pages.specs.declared.ledger.Owner.TheVariants.{Untouched, Pool, Class, Moving}
use Rattle.mc_pages.specs.Ledger.{owner_at}
use Rattle.mc_pages.specs.SlabState.{class_of_owner, is_untouched}
use Rattle.mc_pages.specs.Accounted.{is_of_class, truth}
use Rattle.mc_pages.specs.InOrder.{AreGranted}

-- a page stands in the list of no class but its own
pub class_of_owner-is_of_class : (class : ℕ) (owner : Owner) → is_of_class class owner ≡ true → class_of_owner owner ≡ class
class_of_owner-is_of_class class Untouched h = cc
class_of_owner-is_of_class class Pool h = cc
class_of_owner-is_of_class class (Class own) h = eqb-true own class h
class_of_owner-is_of_class class (Moving src dst) h = eqb-true src class h

-- a page stands in the list of its class
pub is_of_class-class_of_owner : (class : ℕ) (owner : Owner) → 1 ≤ class → class_of_owner owner ≡ class → is_of_class class owner ≡ true
is_of_class-class_of_owner class Untouched first h = absurd (omega arith)
is_of_class-class_of_owner class Pool first h = absurd (omega arith)
is_of_class-class_of_owner class (Class own) first h = eq-eqb own class h
is_of_class-class_of_owner class (Moving src dst) first h = eq-eqb src class h

-- a page with an owner is one of the pages
pub within_from_owned : (page : ℕ) (owners : List Owner) → owner_at owners page ≢ Untouched → page < length owners
within_from_owned page owners owned =
    elim (cases_lt page (length owners)) [ inl within ↦ within | inr past ↦ absurd (owned (get_or_past owners page Untouched past)) ]

-- a page that a class has is one of the pages
pub within_from_is_of_class : (class page : ℕ) (owners : List Owner) → is_of_class class (owner_at owners page) ≡ true → page < length owners
within_from_is_of_class class page owners h =
    within_from_owned page owners (λ e. absurd (false≢true (sym (ap (λ (o : Owner). is_of_class class o) e) ∙ h)))

-- so is a page that has a class
pub within_from_class_of_owner : (page : ℕ) (owners : List Owner) → 1 ≤ class_of_owner (owner_at owners page) → page < length owners
within_from_class_of_owner page owners h =
    within_from_owned page owners (λ e. absurd (omega (arith, h, ap class_of_owner e)))

-- the page whose owner changed
pub owner_at-set_same : (owners : List Owner) (page : ℕ) (owner : Owner) → page < length owners → owner_at (set owners page owner) page ≡ owner
owner_at-set_same owners page owner within = get_or-set_same owners page owner Untouched within

-- the other pages
pub owner_at-set_other : (owners : List Owner) (page other : ℕ) (owner : Owner) → other ≢ page → owner_at (set owners page owner) other ≡ owner_at owners other
owner_at-set_other owners page other owner differs = get_or-set_other owners page other owner Untouched differs

-- the first page that was never granted comes right behind those that were
pub position_or_len-AreGranted : (owners : List Owner) (granted : ℕ) → AreGranted owners granted → position_or_len is_untouched owners ≡ granted
position_or_len-AreGranted owners granted are =
    position_or_len_is is_untouched owners granted Untouched are.within (λ page h. not-true _ (are.below page h)) (λ h. ap is_untouched (are.rest granted (le_refl granted)))

-- the lowest page that was never granted comes right behind those that were
pub position-AreGranted : (owners : List Owner) (granted : ℕ) → AreGranted owners granted → granted < length owners → position is_untouched owners ≡ Some granted
position-AreGranted owners granted are within =
    let place = position_or_len-AreGranted owners granted are in
    rw place (rw (lt-ltb granted (length owners) within))

-- all pages were granted
pub position-AreGranted_all : (owners : List Owner) (granted : ℕ) → AreGranted owners granted → granted ≡ length owners → position is_untouched owners ≡ None
position-AreGranted_all owners granted are all =
    let place = position_or_len-AreGranted owners granted are in
    rw place (rw (le-ltb granted (length owners) (omega arith)))

-- as many of the first pages as were granted aren't untouched
pub count_by-take_granted : (owners : List Owner) (granted n : ℕ) → AreGranted owners granted → n ≤ granted → count_by (λ owner. not (is_untouched owner)) (take n owners) ≡ n
count_by-take_granted owners granted zero are h = refl
count_by-take_granted owners granted (suc n) are h =
    let before = count_by-take_granted owners granted n are (omega arith) in
    let more = count_by_more_yes (λ owner. not (is_untouched owner)) owners n Untouched (omega (arith, are.within)) (are.below n (omega arith)) in
    let P : ℕ → Type 0 = λ k. count_by (λ owner. not (is_untouched owner)) (take k owners) ≡ k in
    subst P (add-one n) (more ∙ ap (λ k. k + 1) before)

-- pages behind the granted ones are untouched
pub count_by-take_rest : (owners : List Owner) (granted n : ℕ) → AreGranted owners granted → granted + n ≤ length owners → count_by (λ owner. not (is_untouched owner)) (take (granted + n) owners) ≡ granted
count_by-take_rest owners granted zero are h = rw add-zero (count_by-take_granted owners granted granted are (le_refl granted))
count_by-take_rest owners granted (suc n) are h =
    let before = count_by-take_rest owners granted n are (omega arith) in
    let untouched : not (is_untouched (owner_at owners (granted + n))) ≡ false = ap (λ (o : Owner). not (is_untouched o)) (are.rest (granted + n) (le-add_right granted n)) in
    let more = count_by_more_no (λ owner. not (is_untouched owner)) owners (granted + n) Untouched (omega arith) untouched in
    let P : ℕ → Type 0 = λ k. count_by (λ owner. not (is_untouched owner)) (take k owners) ≡ granted in
    let next : granted + n + 1 ≡ granted + suc n = omega arith in
    subst P next (more ∙ before)

-- how many pages aren't untouched
pub count_by-AreGranted : (owners : List Owner) (granted : ℕ) → AreGranted owners granted → count_by (λ owner. not (is_untouched owner)) owners ≡ granted
count_by-AreGranted owners granted are =
    let all : granted + (length owners - granted) ≡ length owners = omega (arith, are.within) in
    let rest = count_by-take_rest owners granted (length owners - granted) are (omega arith) in
    let counted = λ (n : ℕ). count_by (λ owner. not (is_untouched owner)) (take n owners) in
    ap (λ (os : List Owner). count_by (λ owner. not (is_untouched owner)) os) (sym (take_all (length owners) owners (le_refl _))) ∙ (ap counted (sym all) ∙ rest)

-- the next page is granted
pub AreGranted-more : (owners : List Owner) (granted : ℕ) (owner : Owner) → AreGranted owners granted → granted < length owners → is_untouched owner ≡ false → AreGranted (set owners granted owner) (granted + 1)
AreGranted-more owners granted owner are within owned =
    record {
      within = omega (arith, length-set owners granted owner);
      below = λ page h.
          elim (cases_eq page granted) [
            | inl same ↦ ap (λ (n : ℕ). not (is_untouched (owner_at (set owners granted owner) n))) same ∙ (ap (λ (o : Owner). not (is_untouched o)) (owner_at-set_same owners granted owner within) ∙ ap not owned)
            | inr differs ↦ ap (λ (o : Owner). not (is_untouched o)) (owner_at-set_other owners granted page owner differs) ∙ are.below page (omega arith)
          ];
      rest = λ page h. owner_at-set_other owners granted page owner (omega arith) ∙ are.rest page (omega arith);
    }

-- a granted page has another owner
pub AreGranted-set : (owners : List Owner) (granted page : ℕ) (owner : Owner) → AreGranted owners granted → is_untouched (owner_at owners page) ≡ false → is_untouched owner ≡ false → AreGranted (set owners page owner) granted
AreGranted-set owners granted page owner are was now =
    elim (cases_lt page granted) [
      | inl within ↦ record {
        within = omega (arith, are.within, length-set owners page owner);
        below = λ other h.
            elim (cases_eq other page) [
              | inl same ↦ ap (λ (n : ℕ). not (is_untouched (owner_at (set owners page owner) n))) same ∙ (ap (λ (o : Owner). not (is_untouched o)) (owner_at-set_same owners page owner (omega (arith, are.within))) ∙ ap not now)
              | inr differs ↦ ap (λ (o : Owner). not (is_untouched o)) (owner_at-set_other owners page other owner differs) ∙ are.below other h
            ];
        rest = λ other h. owner_at-set_other owners page other owner (omega arith) ∙ are.rest other h;
      }
      | inr past ↦ absurd (false≢true (sym was ∙ ap is_untouched (are.rest page past)))
    ]

-- a number that stands in a list is counted there
list_any-count_by : (x : ℕ) (xs : List ℕ) → list_any (eqb x) xs ≡ true → 1 ≤ count_by (λ y. y == x) xs
list_any-count_by x [] h = absurd (false≢true h)
list_any-count_by x (y ∷ ys) h =
    let more = sum_by-cons (λ y. truth (y == x)) y ys in
    elim (or_cases (eqb x y) (list_any (eqb x) ys) h) [
      | inl here ↦
          let one : truth (y == x) ≡ 1 = ap truth (eq-eqb y x (sym (eqb-true x y here))) in
          omega (arith, more, one)
      | inr there ↦ omega (arith, more, list_any-count_by x ys there)
    ]

-- a number that isn't counted in a list is none of its numbers
none_from_count : (x : ℕ) (xs : List ℕ) → count_by (λ y. y == x) xs ≡ 0 → AllByRecursion (λ y. eqb x y ≡ false) xs
none_from_count x [] h = tt
none_from_count x (y ∷ ys) h =
    let more = sum_by-cons (λ y. truth (y == x)) y ys in
    elim (eqb_tells y x) [
      | inl (e, same) ↦ absurd (let one : truth (y == x) ≡ 1 = ap truth e in omega (arith, more, one, h))
      | inr (e, differs) ↦ (ne_eqb x y (λ same. differs (sym same)), none_from_count x ys (omega (arith, more, h)))
    ]

-- numbers that each stand once at most stand apart
IsDistinct_from_counts : (xs : List ℕ) → ((x : ℕ) → count_by (λ y. y == x) xs ≤ 1) → IsDistinct eqb xs
unfolding IsDistinct
IsDistinct_from_counts [] once = tt
IsDistinct_from_counts (x ∷ xs) once =
    let here : truth (x == x) ≡ 1 = ap truth (eq-eqb x x refl) in
    (none_from_count x xs (omega (arith, once x, sum_by-cons (λ y. truth (y == x)) x xs, here)), IsDistinct_from_counts xs (λ y. omega (arith, once y, sum_by-cons (λ z. truth (z == y)) x xs)))

-- numbers of which each stands once at most in a list, all below n, are no more than n
pub length-le_from_counts : (xs : List ℕ) (n : ℕ) → ((x : ℕ) → count_by (λ y. y == x) xs ≤ 1) → ((x : ℕ) → n ≤ x → count_by (λ y. y == x) xs ≡ 0) → length xs ≤ n
length-le_from_counts xs n once below =
    length-le_from_distinct_below xs n (IsDistinct_from_counts xs once) (λ x h.
    elim (cases_lt x n) [ inl within ↦ within | inr past ↦ absurd (omega (arith, list_any-count_by x xs h, below x past)) ])
