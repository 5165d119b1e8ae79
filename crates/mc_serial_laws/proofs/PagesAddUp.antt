-- The pages of all classes and of the pool are as many as were granted.
use Rattle.std.proofs.Common.{◌≡◌, ℕ, ◌+◌, ◌<◌, ◌≤◌, ◌==◌, List, [], ◌∷◌, zero, suc, length, take, take_all, Bool, true, false, not, Option, Some, None, refl, ap, sym, ◌∙◌, subst, arith, add-one, inl, inr, le_refl, lt-ltb, eqb-true, eq-eqb, ne_eqb}
use Rattle.std.specs.Prelude.{if◌then◌else◌, count_by, sum_by, nat_lt}
use Rattle.std.specs.Option.{option_map_or}
use Rattle.std.proofs.lemmas.Bool.{cases_eq, cases_lt}
use Rattle.std.proofs.lemmas.Bool.Decides.{nat_tests}
use Rattle.std.proofs.lemmas.List.Sums.{sum_by-cons, sum_by_more}
use Rattle.mc_pages.specs.declared.ids.Moving.{Moving}
use Rattle.mc_pages.specs.declared.ledger.Owner.{Owner}
use Rattle.mc_pages.specs.declared.ledger.Owner.TheVariants.{Untouched}
use Rattle.mc_pages.specs.Ledger.{owner_at}
use Rattle.mc_pages.specs.ClassState.{ClassState}
use Rattle.mc_pages.specs.SlabState.{SlabState, granted_count, is_untouched, page_count}
use Rattle.mc_pages.specs.Accounted.{truth, IsAccounted}
use Rattle.mc_pages.specs.Pages.{page_places, times_listed, times_pooled, is_on_the_move}
use Rattle.mc_pages.proofs.GrantedPage.{length-owners}
use Rattle.mc_pages.proofs.Pages.{in_no_place, in_one_place, moving_once}

-- a sum over the numbers below a bound
abbrev sum_below : (ℕ → ℕ) → ℕ → ℕ
sum_below f zero = 0
sum_below f (suc n) = sum_below f n + f n

below-same : (f g : ℕ → ℕ) (n : ℕ) → ((p : ℕ) → p < n → f p ≡ g p) → sum_below f n ≡ sum_below g n
below-same f g zero same = refl
below-same f g (suc n) same = omega (arith, below-same f g n (λ p h. same p (omega (arith, h))), same n (omega arith))

below-both : (f g h : ℕ → ℕ) (n : ℕ) → ((p : ℕ) → f p ≡ g p + h p) → sum_below f n ≡ sum_below g n + sum_below h n
below-both f g h zero both = refl
below-both f g h (suc n) both = omega (arith, below-both f g h n both, both n)

below-zero : (n : ℕ) → sum_below (λ p. 0) n ≡ 0
below-zero zero = refl
below-zero (suc n) = omega (arith, below-zero n)

-- one number is met once
below-one : (x n : ℕ) → sum_below (λ p. truth (x == p)) n ≡ truth (nat_lt x n)
below-one x zero = grind (arith, nat_tests)
below-one x (suc n) = elim (cases_eq x n) [
  | inl same ↦
      let before : truth (nat_lt x n) ≡ 0 = grind (arith, nat_tests, same) in
      omega (arith, below-one x n, before, ap truth (eq-eqb x n same), ap truth (lt-ltb x (suc n) (omega (arith, same))))
  | inr apart ↦
      let alike : truth (nat_lt x (suc n)) ≡ truth (nat_lt x n) = grind (arith, nat_tests, apart) in
      omega (arith, below-one x n, alike, ap truth (ne_eqb x n apart))
]

-- a list of numbers below a bound has as many elements as the numbers below it stand in it
below-list : (xs : List ℕ) (n : ℕ) → ((p : ℕ) → n ≤ p → count_by (λ q. q == p) xs ≡ 0) → sum_below (λ p. count_by (λ q. q == p) xs) n ≡ length xs
below-list [] n none = below-zero n
below-list (x ∷ xs) n none =
    let rest : (p : ℕ) → n ≤ p → count_by (λ q. q == p) xs ≡ 0
    = λ p past. omega (arith, none p past, sum_by-cons (λ (q : ℕ). truth (q == p)) x xs) in
    let inside : nat_lt x n ≡ true = elim (cases_lt x n) [
      | inl less ↦ lt-ltb x n less
      | inr past ↦ absurd (omega (arith, none x past, sum_by-cons (λ (q : ℕ). truth (q == x)) x xs, ap truth (eq-eqb x x refl)))
    ] in
    omega (
      arith,
      below-both (λ p. count_by (λ q. q == p) (x ∷ xs)) (λ p. truth (x == p)) (λ p. count_by (λ q. q == p) xs) n (λ p. sum_by-cons (λ (q : ℕ). truth (q == p)) x xs),
      below-one x n,
      ap truth inside,
      below-list xs n rest,
    )

-- and so for the page lists of classes
abbrev listed_in : List ClassState → ℕ → ℕ
listed_in classes page = sum_by (λ class. count_by (λ p. p == page) class.pages) classes

below-classes : (classes : List ClassState) (n : ℕ) → ((p : ℕ) → n ≤ p → listed_in classes p ≡ 0)
    → sum_below (listed_in classes) n ≡ sum_by (λ (c : ClassState). length c.pages) classes
below-classes [] n none = below-zero n
below-classes (c ∷ classes) n none =
    let parts : (p : ℕ) → listed_in (c ∷ classes) p ≡ count_by (λ q. q == p) c.pages + listed_in classes p
    = λ p. sum_by-cons (λ (class : ClassState). count_by (λ q. q == p) class.pages) c classes in
    omega (
      arith,
      below-both (listed_in (c ∷ classes)) (λ p. count_by (λ q. q == p) c.pages) (listed_in classes) n parts,
      below-list c.pages n (λ p past. omega (arith, none p past, parts p)),
      below-classes classes n (λ p past. omega (arith, none p past, parts p)),
      sum_by-cons (λ (class : ClassState). length class.pages) c classes,
    )

-- what each element of a list gives, by its place
below-places : (f : Owner → ℕ) (owners : List Owner) (n : ℕ) → n ≤ length owners → sum_below (λ p. f (owner_at owners p)) n ≡ sum_by f (take n owners)
below-places f owners zero within = refl
below-places f owners (suc n) within =
    let more : sum_by f (take (n + 1) owners) ≡ sum_by f (take n owners) + f (owner_at owners n) = sum_by_more f owners n Untouched (omega (arith, within)) in
    subst (λ (k : ℕ). sum_below (λ p. f (owner_at owners p)) (suc n) ≡ sum_by f (take k owners)) (add-one n)
    (omega (arith, below-places f owners n (omega (arith, within)), more))

module _ (slabs : SlabState) (all : IsAccounted slabs) where
  -- a page that is on the move stands in one page list
  on_the_move : (page : ℕ) (moving : Option Moving) → slabs.moving ≡ moving → option_map_or (λ (move : Moving). move.page == page) moving false ≡ true
      → times_listed slabs page ≡ 1
  on_the_move page None runs is = cc
  on_the_move page (Some move) runs is =
      let same : move.page ≡ page = eqb-true move.page page is in
      ap (times_listed slabs) (sym same) ∙ moving_once slabs move all runs

  -- a page is listed or pooled once where it was granted, and else nowhere
  once_granted : (page : ℕ) → page < length slabs.owners
      → times_listed slabs page + times_pooled slabs page ≡ truth (not (is_untouched (owner_at slabs.owners page)))
  once_granted page within =
      let inside : page < page_count slabs = omega (arith, within, length-owners slabs all) in
      once_way (is_on_the_move slabs page) (is_untouched (owner_at slabs.owners page)) refl refl (lt-ltb page (page_count slabs) inside) (in_one_place slabs page all inside)
    where
      once_way : (moves left : Bool) → is_on_the_move slabs page ≡ moves → is_untouched (owner_at slabs.owners page) ≡ left → nat_lt page (page_count slabs) ≡ true
          → page_places slabs page ≡ 1 → times_listed slabs page + times_pooled slabs page ≡ truth (not (is_untouched (owner_at slabs.owners page)))
      once_way true true moves left inside one =
          let sums : 0 + times_pooled slabs page + 1 + 1 ≡ 1 = rw (moves, left, inside) at one in
          absurd (omega (arith, sums))
      once_way true false moves left inside one =
          let sums : 0 + times_pooled slabs page + 1 + 0 ≡ 1 = rw (moves, left, inside) at one in
          rw left (omega (arith, sums, on_the_move page slabs.moving refl moves))
      once_way false true moves left inside one =
          let sums : times_listed slabs page + times_pooled slabs page + 0 + 1 ≡ 1 = rw (moves, left, inside) at one in
          rw left (omega (arith, sums))
      once_way false false moves left inside one =
          let sums : times_listed slabs page + times_pooled slabs page + 0 + 0 ≡ 1 = rw (moves, left, inside) at one in
          rw left (omega (arith, sums))

  -- what isn't a page is in no list
  nowhere : (page : ℕ) → length slabs.owners ≤ page → (times_listed slabs page ≡ 0) × (times_pooled slabs page ≡ 0)
  nowhere page past =
      nowhere_way (is_on_the_move slabs page) refl (in_no_place slabs page all (omega (arith, past, length-owners slabs all)))
    where
      nowhere_way : (moves : Bool) → is_on_the_move slabs page ≡ moves → page_places slabs page ≡ 0 → (times_listed slabs page ≡ 0) × (times_pooled slabs page ≡ 0)
      nowhere_way true moves none = absurd (omega (arith, none, ap truth moves))
      nowhere_way false moves none =
          let stays : (if is_on_the_move slabs page then 0 else times_listed slabs page) ≡ times_listed slabs page = rw moves refl in
          (omega (arith, none, stays), omega (arith, none))

  pub pages_add_up : sum_by (λ (c : ClassState). length c.pages) slabs.classes + length slabs.pool ≡ granted_count slabs
  pages_add_up =
      let n : ℕ = length slabs.owners in
      let granted : ℕ → ℕ = λ p. truth (not (is_untouched (owner_at slabs.owners p))) in
      let both : ℕ → ℕ = λ p. times_listed slabs p + times_pooled slabs p in
      let whole : sum_by (λ (o : Owner). truth (not (is_untouched o))) (take n slabs.owners) ≡ granted_count slabs
      = ap (sum_by (λ (o : Owner). truth (not (is_untouched o)))) (take_all n slabs.owners (le_refl n)) in
      omega (
        arith,
        below-classes slabs.classes n (λ p past. (nowhere p past).0),
        below-list slabs.pool n (λ p past. (nowhere p past).1),
        below-both both (times_listed slabs) (times_pooled slabs) n (λ p. refl),
        below-same both granted n once_granted,
        below-places (λ (o : Owner). truth (not (is_untouched o))) slabs.owners n (le_refl n),
        whole,
      )
