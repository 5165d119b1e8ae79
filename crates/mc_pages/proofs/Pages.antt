-- Each page is in one place.
use Rattle.std.proofs.Common.{◌≡◌, ℕ, ◌+◌, ◌-◌, ◌<◌, ◌≤◌, ◌==◌, Bool, true, false, ◌&&◌, zero, suc, nat_lt, List, length, take, count_by, sum_by, slice_index_or, Option, Some, None, if◌then◌else◌, refl, sym, ap, ap₂, ◌∙◌, subst, inl, inr, arith, add-one, eq-eqb, ne_eqb, lt-ltb, le-ltb, le_refl, take_all}
use Rattle.std.specs.Option.{option_map, option_map_or}
use Rattle.std.proofs.lemmas.Bool.{cases_eq, and_left, both_ways}
use Rattle.std.proofs.lemmas.Option.{same_Some, none-some}
use Rattle.std.proofs.lemmas.List.{get_or_past}
use Rattle.std.proofs.lemmas.List.Sums.{sum_by_more}
use Rattle.mc_pages.specs.declared.ids.Moving.{Moving}
use Rattle.mc_pages.specs.declared.ledger.Owner.{Owner}
use Rattle.mc_pages.specs.declared.ledger.Owner.TheVariants.{Untouched, Pool, Class}
use Rattle.mc_pages.specs.declared.ledger.Owner.TheVariants as owner
use Rattle.mc_pages.specs.Ledger.{owner_at}
use Rattle.mc_pages.specs.ClassState.{ClassState, new_class}
use Rattle.mc_pages.specs.SlabState.{SlabState, HasClass, class_of_owner, is_untouched, page_count}
use Rattle.mc_pages.specs.Accounted.{truth, is_of_class, is_pool, is_moving, IsAccounted}
use Rattle.mc_pages.specs.Pages.{times_listed, page_places}
use Rattle.mc_pages.proofs.FirstChunks.{truth-nat_lt_more}
use Rattle.mc_pages.proofs.GrantedPage.{length-owners}

-- a sum of which the term at one place alone is 1, and each other is 0
sum_by-one_place : {X : Type 0} (f : X → ℕ) (xs : List X) (d : X) (place n : ℕ) → n ≤ length xs → ((i : ℕ) → i < n → f (slice_index_or xs i d) ≡ truth (i == place)) → sum_by f (take n xs) ≡ truth (nat_lt place n)
sum_by-one_place {X} f xs d place zero within terms = sym (ap truth (le-ltb place 0 (omega arith)))
sum_by-one_place {X} f xs d place (suc n) within terms =
    let before = sum_by-one_place f xs d place n (omega arith) (λ i h. terms i (omega arith)) in
    let more = sum_by_more f xs n d (omega arith) in
    let sums : sum_by f (take (n + 1) xs) ≡ truth (nat_lt place (n + 1)) = omega (arith, before, more, terms n (omega arith), truth-nat_lt_more n place) in
    subst (λ (k : ℕ). sum_by f (take k xs) ≡ truth (nat_lt place k)) (add-one n) sums

-- a class and its place tell each other
same_place : (class place : ℕ) → 1 ≤ class → truth (class == (place + 1)) ≡ truth (place == (class - 1))
same_place class place some =
    elim (cases_eq class (place + 1)) [
      | inl same ↦ ap truth (eq-eqb class (place + 1) same) ∙ sym (ap truth (eq-eqb place (class - 1) (omega (arith, same))))
      | inr differs ↦ ap truth (ne_eqb class (place + 1) differs) ∙ sym (ap truth (ne_eqb place (class - 1) (λ h. differs (omega (arith, h, some)))))
    ]

-- the class at a place has the page where that is the page's class
is_of_class-at_place : (owner : Owner) (place : ℕ) → 1 ≤ class_of_owner owner → truth (is_of_class (place + 1) owner) ≡ truth (place == (class_of_owner owner - 1))
is_of_class-at_place Untouched place some = absurd (omega arith)
is_of_class-at_place Pool place some = absurd (omega arith)
is_of_class-at_place (Class own) place some = same_place own place some
is_of_class-at_place (owner.Moving src dst) place some = same_place src place some

-- the place of a class whose number is one more
place_of_next : (place : ℕ) → place + 1 - 1 ≡ place
place_of_next place = omega arith

-- a page that has no class stands in no page list
listed_nowhere : (slabs : SlabState) (page : ℕ) → IsAccounted slabs → ((class : ℕ) → is_of_class class (owner_at slabs.owners page) ≡ false) → times_listed slabs page ≡ 0
listed_nowhere slabs page all none =
    let counted = λ (c : ClassState). count_by (λ p. p == page) c.pages in
    let n = length slabs.classes in
    let terms = λ (place : ℕ) (h : place < n). all.pages (place + 1) page (omega arith, omega (arith, h)) in
    let sums = sum_by-one_place counted slabs.classes (new_class 0 0) n n (le_refl n) (λ place h.
    let at = ap (λ (k : ℕ). counted (slice_index_or slabs.classes k (new_class 0 0))) (place_of_next place) in
    sym at ∙ (terms place h ∙ (ap truth (none (place + 1)) ∙ sym (ap truth (ne_eqb place n (omega (arith, h))))))) in
    ap (sum_by counted) (sym (take_all n slabs.classes (le_refl n))) ∙ (sums ∙ ap truth (le-ltb n n (le_refl n)))

-- a page that has a class stands once in one page list
listed_once : (slabs : SlabState) (page : ℕ) → IsAccounted slabs → HasClass slabs (class_of_owner (owner_at slabs.owners page)) → times_listed slabs page ≡ 1
listed_once slabs page all is =
    let counted = λ (c : ClassState). count_by (λ p. p == page) c.pages in
    let n = length slabs.classes in
    let own = class_of_owner (owner_at slabs.owners page) in
    let terms = λ (place : ℕ) (h : place < n). all.pages (place + 1) page (omega arith, omega (arith, h)) in
    let sums = sum_by-one_place counted slabs.classes (new_class 0 0) (own - 1) n (le_refl n) (λ place h.
    let at = ap (λ (k : ℕ). counted (slice_index_or slabs.classes k (new_class 0 0))) (place_of_next place) in
    sym at ∙ (terms place h ∙ is_of_class-at_place (owner_at slabs.owners page) place is.0)) in
    ap (sum_by counted) (sym (take_all n slabs.classes (le_refl n))) ∙ (sums ∙ ap truth (lt-ltb (own - 1) n (omega (arith, is.0, is.1))))

-- a page whose owner doesn't move is not on the move
not_on_the_move : (slabs : SlabState) (page : ℕ) (moving : Option Moving) → IsAccounted slabs → slabs.moving ≡ moving → is_moving (owner_at slabs.owners page) ≡ false → option_map_or (λ move. move.page == page) moving false ≡ false
not_on_the_move slabs page None all runs still = refl
not_on_the_move slabs page (Some move) all runs still =
    ne_eqb move.page page (λ same. both_ways _ still (ap (λ (p : ℕ). is_moving (owner_at slabs.owners p)) (sym same) ∙ ap is_moving (all.move move runs).owner))

-- the page of the move that runs is
on_the_move : (page : ℕ) (moving : Option Moving) → option_map (λ move. move.page) moving ≡ Some page → option_map_or (λ move. move.page == page) moving false ≡ true
on_the_move page None h = absurd (none-some page h)
on_the_move page (Some move) h = eq-eqb move.page page (same_Some move.page page h)

-- in how many places a page is, by its owner
places_by_owner : (slabs : SlabState) (page : ℕ) (owner : Owner) → IsAccounted slabs → owner_at slabs.owners page ≡ owner → page < page_count slabs → page_places slabs page ≡ 1
places_by_owner slabs page Untouched all at within =
    let rest = not_on_the_move slabs page slabs.moving all refl (ap is_moving at) in
    let listed = listed_nowhere slabs page all (λ class. ap (is_of_class class) at) in
    let stays = ap (λ b. if b then 0 else times_listed slabs page) rest in
    let pooled = all.pool page ∙ ap (λ (o : Owner). truth (is_pool o)) at in
    let left = ap₂ (λ (a b : Bool). truth (a && b)) (lt-ltb page (page_count slabs) within) (ap is_untouched at) in
    omega (arith, stays, listed, pooled, ap truth rest, left)
places_by_owner slabs page Pool all at within =
    let rest = not_on_the_move slabs page slabs.moving all refl (ap is_moving at) in
    let listed = listed_nowhere slabs page all (λ class. ap (is_of_class class) at) in
    let stays = ap (λ b. if b then 0 else times_listed slabs page) rest in
    let pooled = all.pool page ∙ ap (λ (o : Owner). truth (is_pool o)) at in
    let left = ap₂ (λ (a b : Bool). truth (a && b)) (lt-ltb page (page_count slabs) within) (ap is_untouched at) in
    omega (arith, stays, listed, pooled, ap truth rest, left)
places_by_owner slabs page (Class own) all at within =
    let rest = not_on_the_move slabs page slabs.moving all refl (ap is_moving at) in
    let is = all.owned own page (ap (is_of_class own) at ∙ eq-eqb own own refl) in
    let listed = listed_once slabs page all (subst (λ (n : ℕ). HasClass slabs n) (sym (ap class_of_owner at)) is) in
    let stays = ap (λ b. if b then 0 else times_listed slabs page) rest in
    let pooled = all.pool page ∙ ap (λ (o : Owner). truth (is_pool o)) at in
    let left = ap₂ (λ (a b : Bool). truth (a && b)) (lt-ltb page (page_count slabs) within) (ap is_untouched at) in
    omega (arith, stays, listed, pooled, ap truth rest, left)
places_by_owner slabs page (owner.Moving src dst) all at within =
    let moves = on_the_move page slabs.moving (all.one_move page (ap is_moving at)) in
    let stays = ap (λ b. if b then 0 else times_listed slabs page) moves in
    let pooled = all.pool page ∙ ap (λ (o : Owner). truth (is_pool o)) at in
    let left = ap₂ (λ (a b : Bool). truth (a && b)) (lt-ltb page (page_count slabs) within) (ap is_untouched at) in
    omega (arith, stays, pooled, ap truth moves, left)

-- each page is in one place
pub in_one_place : (slabs : SlabState) (page : ℕ) → IsAccounted slabs → page < page_count slabs → page_places slabs page ≡ 1
in_one_place slabs page all within = places_by_owner slabs page (owner_at slabs.owners page) all refl within

-- the page on the move stands in one page list
pub moving_once : (slabs : SlabState) (move : Moving) → IsAccounted slabs → slabs.moving ≡ Some move → times_listed slabs move.page ≡ 1
moving_once slabs move all runs =
    let is = all.move move runs in
    listed_once slabs move.page all (subst (λ (n : ℕ). HasClass slabs n) (sym (ap class_of_owner is.owner)) is.src)

-- what isn't a page is nowhere
pub in_no_place : (slabs : SlabState) (page : ℕ) → IsAccounted slabs → page_count slabs ≤ page → page_places slabs page ≡ 0
in_no_place slabs page all past =
    let at = get_or_past slabs.owners page Untouched (omega (arith, length-owners slabs all, past)) in
    let rest = not_on_the_move slabs page slabs.moving all refl (ap is_moving at) in
    let listed = listed_nowhere slabs page all (λ class. ap (is_of_class class) at) in
    let stays = ap (λ b. if b then 0 else times_listed slabs page) rest in
    let pooled = all.pool page ∙ ap (λ (o : Owner). truth (is_pool o)) at in
    let left = ap truth (and_left (nat_lt page (page_count slabs)) (is_untouched (owner_at slabs.owners page)) (le-ltb page (page_count slabs) past)) in
    omega (arith, stays, listed, pooled, ap truth rest, left)
