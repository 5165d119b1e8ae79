-- What the code keeps of all pages and chunks, after a class got a page.
use Rattle.std.proofs.Common.{◌≡◌, ◌≢◌, ℕ, ◌+◌, ◌-◌, ◌<◌, ◌≤◌, ◌==◌, Bool, true, false, not, ◌||◌, List, [], ◌∷◌, ◌++◌, length, set, take, count_by, slice_index_or, Some, None, refl, sym, ap, ◌∙◌, inl, inr, arith, subst, eqb-true, eq-eqb, ne_eqb, le_refl, take_all}
use Rattle.std.proofs.lemmas.Bool.{cases_eq, cases_Bool, false≢true}
use Rattle.std.proofs.lemmas.Option.{slice_get_within, get_or_from_slice_get}
use Rattle.std.proofs.lemmas.List.Sums.{sum_by_more, get_or-le-sum_by, count_by-le-length}
use Rattle.mc_pages.specs.declared.ledger.Owner.{Owner}
use Rattle.mc_pages.specs.declared.ledger.Owner.TheVariants.{Untouched, Pool, Class}
use Rattle.mc_pages.specs.declared.ledger.Owner.TheVariants as owner
use Rattle.mc_pages.specs.declared.ledger.Entry.{Entry}
use Rattle.mc_pages.specs.declared.ledger.Entry.TheVariants.{Granted, Taken}
use Rattle.mc_pages.specs.Ledger.{KeepsGrace, ordinary_count, owner_at, fits_owner}
use Rattle.mc_pages.specs.ClassState.{with_page}
use Rattle.mc_pages.specs.SlabState.{SlabState, HasClass, class_at, is_untouched}
use Rattle.mc_pages.specs.Changes.{with_given, pooled_page, has_ordinary_page, is_without_page, after_grant, after_take}
use Rattle.mc_pages.specs.Accounted.{truth, is_of_class, is_pool, is_moving, IsAccounted}
use Rattle.mc_pages.specs.InOrder.{AreSlabsInOrder, populated_count}
use Rattle.mc_pages.proofs.Owners.{owner_at-set_same, owner_at-set_other, within_from_owned, AreGranted-more, AreGranted-set}
use Rattle.mc_pages.proofs.Grace.{KeepsGrace-set, KeepsGrace-first, ordinary_count-push, populated-given, populated-first}
use Rattle.mc_pages.proofs.OneClass.{IsClass-with_class, length-with_class}
use Rattle.mc_pages.proofs.Placed.{ArePlaced_from, IsAccounted-entry}
use Rattle.mc_pages.proofs.GivenPage.{IsNoClass, owner-set_alike, ArePlaced-given}
use Rattle.mc_pages.proofs.Steady.{IsSteady_from, IsInOrder-given}

-- what isn't false is true
not_not : (b : Bool) → not (not b) ≡ true → b ≡ true
not_not true h = refl
not_not false h = h

-- the class may get a page that was never granted
abbrev pub may_be_granted : SlabState → ℕ → Bool
may_be_granted slabs class = has_ordinary_page slabs || is_without_page slabs class

-- a class without a page owns none
no_own_page : (slabs : SlabState) (class : ℕ) → IsAccounted slabs → HasClass slabs class → length (class_at slabs class).pages ≡ 0 → (page : ℕ) → owner_at slabs.owners page ≢ Class class
no_own_page slabs class all is none page owned =
    let here : truth (is_of_class class (owner_at slabs.owners page)) ≡ 1 = ap (λ (o : Owner). truth (is_of_class class o)) owned ∙ ap truth (eq-eqb class class refl) in
    omega (arith, all.pages class page is, count_by-le-length (λ (p : ℕ). p == page) (class_at slabs class).pages, here, none)

-- a page that is granted within the limit is no grace, and one beyond it the first of its class
KeepsGrace-granted : (slabs : SlabState) (given page : ℕ) → IsAccounted slabs → HasClass slabs given → page < length slabs.owners → ((class : ℕ) → owner_at slabs.owners page ≢ Class class) → may_be_granted slabs given ≡ true → KeepsGrace (set slabs.owners page (Class given)) (slabs.ledger ++ Granted page given (not (has_ordinary_page slabs)) ∷ [])
KeepsGrace-granted slabs given page all is within free may =
    let after = λ (b : Bool). KeepsGrace (set slabs.owners page (Class given)) (slabs.ledger ++ Granted page given b ∷ []) in
    elim (cases_Bool (has_ordinary_page slabs)) [
      | inl left ↦ subst after (sym (ap not left)) (KeepsGrace-set slabs.owners slabs.ledger (Granted page given false) page (Class given) all.grace (λ class. refl) free)
      | inr none ↦
          let first = eqb-true (length (class_at slabs given).pages) 0 (sym (ap (λ b. b || is_without_page slabs given) none) ∙ may) in
          subst after (sym (ap not none)) (KeepsGrace-first slabs.owners slabs.ledger page given all.grace within free (no_own_page slabs given all is first))
    ]

-- either is one more within the limit, or one more class has a page
graced-granted : (slabs : SlabState) (granted given : ℕ) → AreSlabsInOrder slabs granted → HasClass slabs given → may_be_granted slabs given ≡ true → granted + 1 ≤ ordinary_count (slabs.ledger ++ Granted granted given (not (has_ordinary_page slabs)) ∷ []) + populated_count (with_given slabs given granted).classes
graced-granted slabs granted given kept is may =
    let more = ordinary_count-push slabs.ledger (Granted granted given (not (has_ordinary_page slabs))) in
    elim (cases_Bool (has_ordinary_page slabs)) [
      | inl left ↦ omega (arith, more, ap (λ b. truth (not (not b))) left, kept.graced, populated-given slabs given granted is)
      | inr none ↦
          let first = eqb-true (length (class_at slabs given).pages) 0 (sym (ap (λ b. b || is_without_page slabs given) none) ∙ may) in
          omega (arith, more, ap (λ b. truth (not (not b))) none, kept.graced, populated-first slabs given granted is first)
    ]

-- an untouched page is given to a class
pub IsInOrder-after_grant : (slabs : SlabState) (granted given : ℕ) → AreSlabsInOrder slabs granted → HasClass slabs given → slabs.uncut ≡ None → granted < length slabs.owners → may_be_granted slabs given ≡ true → AreSlabsInOrder (after_grant slabs given granted) (granted + 1)
IsInOrder-after_grant slabs granted given kept is whole within may =
    let untouched = kept.lowest.rest granted (le_refl granted) in
    let free : IsNoClass (owner_at slabs.owners granted) = record { of_class = λ class. ap (λ (o : Owner). is_of_class class o) untouched; still = ap is_moving untouched } in
    let pooled = λ (other : ℕ). kept.accounted.pool other ∙ ap truth (sym (owner-set_alike is_pool slabs.owners granted other (Class given) within (sym (ap is_pool untouched)))) in
    let placed = ArePlaced-given slabs given granted slabs.pool (ArePlaced_from slabs kept.accounted) is whole within free pooled in
    let grace = not (has_ordinary_page slabs) in
    let entry : Entry = Granted granted given grace in
    let noone = λ (class : ℕ) (owned : owner_at slabs.owners granted ≡ Class class). false≢true (ap is_untouched (sym owned ∙ untouched)) in
    let fit = ap (λ (o : Owner). fits_owner entry o) untouched in
    let cursor = IsClass-with_class slabs given slabs.cursor (with_page (class_at slabs given) granted) kept.accounted.cursor in
    let ordinary = λ (e : not grace ≡ true). not_not (has_ordinary_page slabs) e in
    let kept_grace = KeepsGrace-granted slabs given granted kept.accounted is within noone may in
    let all = IsAccounted-entry slabs (with_given slabs given granted) entry (Class given) kept.accounted within fit refl placed cursor kept.accounted.mode ordinary kept_grace (length-with_class slabs given (with_page (class_at slabs given) granted)) in
    IsInOrder-given slabs (granted + 1) given granted slabs.moved slabs.pool (slabs.ledger ++ entry ∷ []) (IsSteady_from slabs granted kept) is within all (AreGranted-more slabs.owners granted (Class given) kept.lowest within refl) (graced-granted slabs granted given kept is may)

-- the owner of a page in the pool
Pool-from_is_pool : (owner : Owner) → is_pool owner ≡ true → owner ≡ Pool
Pool-from_is_pool Untouched h = absurd (false≢true h)
Pool-from_is_pool Pool h = refl
Pool-from_is_pool (Class own) h = absurd (false≢true h)
Pool-from_is_pool (owner.Moving src dst) h = absurd (false≢true h)

-- a page that is the last of the pool is owned by the pool
pub owner_of_pooled : (slabs : SlabState) (page : ℕ) → IsAccounted slabs → pooled_page slabs ≡ Some page → owner_at slabs.owners page ≡ Pool
owner_of_pooled slabs page all h =
    let place = length slabs.pool - 1 in
    let within = slice_get_within slabs.pool place page h in
    let at = get_or_from_slice_get slabs.pool place page 0 h in
    let here : truth (slice_index_or slabs.pool place 0 == page) ≡ 1 = ap truth (eq-eqb _ page at) in
    let counted = get_or-le-sum_by (λ p. truth (p == page)) slabs.pool place 0 within in
    elim (cases_Bool (is_pool (owner_at slabs.owners page))) [
      | inl pool ↦ Pool-from_is_pool _ pool
      | inr other ↦ absurd (omega (arith, all.pool page, counted, here, ap truth other))
    ]

-- the pool without its last page
pool-taken : (slabs : SlabState) (given page : ℕ) → IsAccounted slabs → pooled_page slabs ≡ Some page → page < length slabs.owners → owner_at slabs.owners page ≡ Pool → (other : ℕ) → count_by (λ p. p == other) (take (length slabs.pool - 1) slabs.pool) ≡ truth (is_pool (owner_at (set slabs.owners page (Class given)) other))
pool-taken slabs given page all h inside owned other =
    let place = length slabs.pool - 1 in
    let within = slice_get_within slabs.pool place page h in
    let at = get_or_from_slice_get slabs.pool place page 0 h in
    let more = sum_by_more (λ p. truth (p == other)) slabs.pool place 0 within in
    let long : place + 1 ≡ length slabs.pool = omega arith in
    let whole = ap (λ (n : ℕ). count_by (λ p. p == other) (take n slabs.pool)) long ∙ ap (λ (ps : List ℕ). count_by (λ p. p == other) ps) (take_all (length slabs.pool) slabs.pool (le_refl (length slabs.pool))) in
    let last = ap (λ (p : ℕ). truth (p == other)) at in
    let pooled = λ (o : Owner). truth (is_pool o) in
    elim (cases_eq other page) [
      | inl same ↦
          let now = ap (λ (p : ℕ). pooled (owner_at (set slabs.owners page (Class given)) p)) same ∙ ap pooled (owner_at-set_same slabs.owners page (Class given) inside) in
          let was = ap (λ (p : ℕ). pooled (owner_at slabs.owners p)) same ∙ ap pooled owned in
          omega (arith, more, whole, last, now, was, all.pool other, ap truth (eq-eqb page other (sym same)))
      | inr differs ↦
          let now = ap pooled (owner_at-set_other slabs.owners page other (Class given) differs) in
          omega (arith, more, whole, last, now, all.pool other, ap truth (ne_eqb page other (λ e. differs (sym e))))
    ]

-- the last page of the pool is given to a class
pub IsInOrder-after_take : (slabs : SlabState) (granted given page : ℕ) → AreSlabsInOrder slabs granted → HasClass slabs given → slabs.uncut ≡ None → pooled_page slabs ≡ Some page → AreSlabsInOrder (after_take slabs given page) granted
IsInOrder-after_take slabs granted given page kept is whole h =
    let all = kept.accounted in
    let owned = owner_of_pooled slabs page all h in
    let touched : is_untouched (owner_at slabs.owners page) ≡ false = ap is_untouched owned in
    let within = within_from_owned page slabs.owners (λ e. absurd (false≢true (sym touched ∙ ap is_untouched e))) in
    let free : IsNoClass (owner_at slabs.owners page) = record { of_class = λ class. ap (λ (o : Owner). is_of_class class o) owned; still = ap is_moving owned } in
    let pool = take (length slabs.pool - 1) slabs.pool in
    let placed = ArePlaced-given slabs given page pool (ArePlaced_from slabs all) is whole within free (pool-taken slabs given page all h within owned) in
    let new : SlabState = record (with_given slabs given page) { pool = pool } in
    let entry : Entry = Taken page given in
    let grace = KeepsGrace-set slabs.owners slabs.ledger entry page (Class given) all.grace (λ class. refl) (λ class other. false≢true (ap is_pool (sym other ∙ owned))) in
    let after = IsAccounted-entry slabs new entry (Class given) all within (ap (λ (o : Owner). fits_owner entry o) owned) refl placed (IsClass-with_class slabs given slabs.cursor (with_page (class_at slabs given) page) all.cursor) all.mode (λ e. absurd (false≢true e)) grace (length-with_class slabs given (with_page (class_at slabs given) page)) in
    IsInOrder-given slabs granted given page slabs.moved pool (slabs.ledger ++ entry ∷ []) (IsSteady_from slabs granted kept) is within after (AreGranted-set slabs.owners granted page (Class given) kept.lowest touched refl) (omega (arith, kept.graced, ordinary_count-push slabs.ledger entry, populated-given slabs given page is))
