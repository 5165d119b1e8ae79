-- What the code keeps of all pages and chunks, after each step of a move.
use Rattle.std.proofs.Common.{◌≡◌, ◌≢◌, ℕ, ◌-◌, ◌<◌, ◌≤◌, ◌==◌, true, List, length, take, set, count_by, slice_get, slice_index_or, Option, Some, None, Ok, refl, sym, ap, ◌∙◌, subst, inl, inr, arith, eq-eqb, length-set}
use Rattle.std.specs.Option.{option_map}
use Rattle.std.proofs.lemmas.Bool.{cases_eq, cases_Bool, false≢true}
use Rattle.std.proofs.lemmas.Option.{get_or_from_slice_get}
use Rattle.std.proofs.lemmas.List.{get_or-take, length-take-le}
use Rattle.std.proofs.lemmas.List.Sums.{sum_by_more_le, get_or-le-sum_by}
use Rattle.mc_pages.specs.declared.ids.ChunkId.{ChunkId}
use Rattle.mc_pages.specs.declared.ids.Moving.{Moving}
use Rattle.mc_pages.specs.declared.ledger.Owner.{Owner}
use Rattle.mc_pages.specs.declared.ledger.Owner.TheVariants.{Class}
use Rattle.mc_pages.specs.declared.ledger.Owner.TheVariants as owner
use Rattle.mc_pages.specs.declared.ledger.Entry.TheVariants.{Began}
use Rattle.mc_pages.specs.declared.moves.Found.{Found}
use Rattle.mc_pages.specs.Ledger.{owner_at, fits_owner}
use Rattle.mc_pages.specs.SlabState.{SlabState, HasClass, class_at, class_of_owner, class_of_page, is_untouched}
use Rattle.mc_pages.specs.Answer.{answer_of, cursor_after}
use Rattle.mc_pages.specs.Moves.{first_page, with_move, after_begin, moved_on, begun_anew, after_passed, after_wrap, CanPass, CanWrap}
use Rattle.mc_pages.specs.Accounted.{truth, is_of_class, is_moving, IsAccounted}
use Rattle.mc_pages.specs.InOrder.{IsBeingCut, AreSlabsInOrder}
use Rattle.mc_pages.proofs.Cleared.{truth-le_one}
use Rattle.mc_pages.proofs.Owners.{within_from_is_of_class, owner_at-set_other, AreGranted-set}
use Rattle.mc_pages.proofs.Grace.{KeepsGrace-next, ordinary_count-push}
use Rattle.mc_pages.specs.Changes.{after_trim}
use Rattle.mc_pages.proofs.Placed.{ArePlaced_from, IsAccounted-entry, IsAccounted-numbers, IsAccounted-trimmed}
use Rattle.mc_pages.proofs.BegunMove.{Class-from_still, still_at_rest, ArePlaced-begun}
use Rattle.mc_pages.proofs.Source.{source_is}
use Rattle.mc_pages.proofs.Passes.{IsAccounted-moved, IsMove-passed, IsMove-anew}

-- a page that stands first and last in a list of two or more stands there twice
twice_counted : (pages : List ℕ) (page : ℕ) → 2 ≤ length pages → slice_index_or pages 0 0 ≡ page → slice_index_or pages (length pages - 1) 0 ≡ page → 2 ≤ count_by (λ p. p == page) pages
twice_counted pages page two first last =
    let place = length pages - 1 in
    let counted = λ (p : ℕ). truth (p == page) in
    let behind = sum_by_more_le counted pages place 0 (omega arith) in
    let long = length-take-le place pages (omega arith) in
    let before = get_or-le-sum_by counted (take place pages) 0 0 (omega (arith, long)) in
    let same = ap counted (get_or-take place pages 0 0 (omega arith)) in
    let here : counted (slice_index_or pages 0 0) ≡ 1 = ap truth (eq-eqb (slice_index_or pages 0 0) page first) in
    let there : counted (slice_index_or pages place 0) ≡ 1 = ap truth (eq-eqb (slice_index_or pages place 0) page last) in
    omega (arith, behind, before, same, here, there)

-- a page in the list of a class is its page
is_of_class-listed : (slabs : SlabState) (class place : ℕ) → IsAccounted slabs → HasClass slabs class → place < length (class_at slabs class).pages → is_of_class class (owner_at slabs.owners (slice_index_or (class_at slabs class).pages place 0)) ≡ true
is_of_class-listed slabs class place all is within =
    let pages = (class_at slabs class).pages in
    let page = slice_index_or pages place 0 in
    let counted = get_or-le-sum_by (λ p. truth (p == page)) pages place 0 within in
    let here : truth (slice_index_or pages place 0 == page) ≡ 1 = ap truth (eq-eqb page page refl) in
    elim (cases_Bool (is_of_class class (owner_at slabs.owners page))) [
      | inl of ↦ of
      | inr other ↦ absurd (omega (arith, all.pages class page is, counted, here, ap truth other))
    ]

-- so is the first page of a class that has one
is_of_class-first : (slabs : SlabState) (class : ℕ) → IsAccounted slabs → HasClass slabs class → 1 ≤ length (class_at slabs class).pages → is_of_class class (owner_at slabs.owners (first_page slabs class)) ≡ true
is_of_class-first slabs class all is some = is_of_class-listed slabs class 0 all is (omega arith)

-- a class of two pages has another one than its first
another_page : (slabs : SlabState) (class : ℕ) → IsAccounted slabs → HasClass slabs class → 2 ≤ length (class_at slabs class).pages → slabs.moving ≡ None → (page : ℕ) × (page ≢ first_page slabs class) × (owner_at slabs.owners page ≡ Class class)
another_page slabs class all is two rest =
    let pages = (class_at slabs class).pages in
    let first = first_page slabs class in
    let place = length pages - 1 in
    let page = slice_index_or pages place 0 in
    let owned = Class-from_still class (owner_at slabs.owners page) (is_of_class-listed slabs class place all is (omega arith)) (still_at_rest slabs (ArePlaced_from slabs all) rest page) in
    let once = truth-le_one (is_of_class class (owner_at slabs.owners first)) in
    (page, (λ same. absurd (omega (arith, twice_counted pages first two refl same, all.pages class first is, once))), owned)

-- each class that has a page to stay has one where one of two begins to move
stays-begun : (slabs : SlabState) (page source other : ℕ) (moved : Owner) → owner_at slabs.owners page ≡ Class source → other ≢ page → owner_at slabs.owners other ≡ Class source → (class own : ℕ) → owner_at slabs.owners own ≡ Class class → (it : ℕ) × (owner_at (set slabs.owners page moved) it ≡ Class class)
stays-begun slabs page source other moved owned apart spare class own is =
    elim (cases_eq own page) [
      | inl same ↦
          let sources : Class source ≡ Class class = sym owned ∙ (ap (owner_at slabs.owners) (sym same) ∙ is) in
          (other, owner_at-set_other slabs.owners page other moved apart ∙ (spare ∙ sources))
      | inr differs ↦ (own, owner_at-set_other slabs.owners page own moved differs ∙ is)
    ]

-- the first page of a class is one of the pages
pub first_page_within : (slabs : SlabState) (granted source : ℕ) → AreSlabsInOrder slabs granted → HasClass slabs source → 1 ≤ length (class_at slabs source).pages → first_page slabs source < length slabs.owners
first_page_within slabs granted source kept is some =
    within_from_is_of_class source (first_page slabs source) slabs.owners (is_of_class-first slabs source kept.accounted is some)

-- the page that is being cut is not the first of two or more
not_first : (slabs : SlabState) (chunk : ChunkId) (class : ℕ) → IsAccounted slabs → HasClass slabs class → 2 ≤ length (class_at slabs class).pages → IsBeingCut slabs chunk → class_of_page slabs (first_page slabs class) ≡ class → chunk.page ≢ first_page slabs class
not_first slabs chunk class all is two on own = λ same.
    let page = first_page slabs class in
    let pages = (class_at slabs class).pages in
    let there : class_of_page slabs chunk.page ≡ class = ap (λ (p : ℕ). class_of_page slabs p) same ∙ own in
    let newest = ap (λ (n : ℕ). slice_get (class_at slabs n).pages (length (class_at slabs n).pages - 1)) (sym there) ∙ on.newest in
    let last = get_or_from_slice_get pages (length pages - 1) chunk.page 0 newest ∙ same in
    omega (arith, twice_counted pages page two refl last, all.pages class page is, truth-le_one (is_of_class class (owner_at slabs.owners page)))

-- the chunk that is cut next stays, on another page
IsBeingCut-begun : (slabs : SlabState) (chunk : ChunkId) (page src dst cursor : ℕ) → owner_at slabs.owners page ≡ Class src → page < length slabs.owners → chunk.page ≢ page → IsBeingCut slabs chunk → IsBeingCut (record (with_move slabs page src dst) { cursor = cursor }) chunk
IsBeingCut-begun slabs chunk page src dst cursor owned within apart on =
    let new : SlabState = with_move slabs page src dst in
    let own : class_of_page slabs chunk.page ≡ class_of_page new chunk.page = sym (ap class_of_owner (owner_at-set_other slabs.owners page chunk.page (owner.Moving src dst) apart)) in
    record {
      owned = subst (λ (n : ℕ). HasClass slabs n) own on.owned;
      still = ap is_moving (owner_at-set_other slabs.owners page chunk.page (owner.Moving src dst) apart) ∙ on.still;
      within = subst (λ (n : ℕ). chunk.index < (class_at slabs n).per_page) own on.within;
      newest = subst (λ (n : ℕ). slice_get (class_at slabs n).pages (length (class_at slabs n).pages - 1) ≡ Some chunk.page) own on.newest;
    }

-- the cursor is at a class
cursor-begun : (slabs : SlabState) (src : Option ℕ) (source : ℕ) → HasClass slabs source → HasClass slabs slabs.cursor → HasClass slabs (cursor_after slabs src source)
cursor-begun slabs None source is at = is
cursor-begun slabs (Some src) source is at = at

-- the first page of the source begins to move
pub IsInOrder-after_begin : (slabs : SlabState) (granted : ℕ) (src : Option ℕ) (source dst : ℕ) → AreSlabsInOrder slabs granted → answer_of slabs src dst ≡ Ok source → AreSlabsInOrder (after_begin slabs src source dst) granted
IsInOrder-after_begin slabs granted src source dst kept answer =
    let all = kept.accounted in
    let told = source_is slabs src source dst answer in
    let page = first_page slabs source in
    let cursor = cursor_after slabs src source in
    let some : 1 ≤ length (class_at slabs source).pages = omega (arith, told.1) in
    let within = first_page_within slabs granted source kept told.0 some in
    let places = ArePlaced_from slabs all in
    let owned = Class-from_still source (owner_at slabs.owners page) (is_of_class-first slabs source all told.0 some) (still_at_rest slabs places told.4 page) in
    let new : SlabState = with_move slabs page source dst in
    let placed = ArePlaced-begun slabs page source dst places told.4 told.0 told.1 told.2 told.3 owned within in
    let fit = ap (λ (o : Owner). fits_owner (Began page source dst) o) owned ∙ eq-eqb source source refl in
    let other = another_page slabs source all told.0 told.1 told.4 in
    let moved = owner.Moving source dst in
    let grace = KeepsGrace-next slabs.owners (set slabs.owners page moved) slabs.ledger (Began page source dst) all.grace (λ class. refl) (stays-begun slabs page source other.0 moved owned other.1 other.2) in
    let after = IsAccounted-entry slabs new (Began page source dst) moved all within fit refl placed all.cursor all.mode (λ e. absurd (false≢true e)) grace refl in
    record {
      accounted = IsAccounted-numbers new cursor slabs.moved slabs.rescues slabs.evictions_nomem slabs.busy slabs.automove after (cursor-begun slabs src source told.0 all.cursor) all.mode;
      lowest = AreGranted-set slabs.owners granted page (owner.Moving source dst) kept.lowest (ap is_untouched owned) refl;
      graced = omega (arith, kept.graced, ordinary_count-push slabs.ledger (Began page source dst));
      pages = omega (arith, kept.pages, length-set slabs.owners page (owner.Moving source dst));
      per_page = kept.per_page;
      at_most = kept.at_most;
      uncut = λ chunk h.
          let on = kept.uncut chunk h in
          IsBeingCut-begun slabs chunk page source dst cursor owned within (not_first slabs chunk source all told.0 told.1 on (ap class_of_owner owned)) on;
    }

-- another move of the same page, and other counters, leave the rest in order
IsInOrder-moved : (slabs : SlabState) (granted rescues evictions_nomem busy : ℕ) (moving : Option Moving) → AreSlabsInOrder slabs granted → IsAccounted (record slabs { moving = moving }) → AreSlabsInOrder (record slabs { moving = moving; rescues = rescues; evictions_nomem = evictions_nomem; busy = busy }) granted
IsInOrder-moved slabs granted rescues evictions_nomem busy moving kept all =
    record {
      accounted = IsAccounted-numbers (record slabs { moving = moving }) slabs.cursor slabs.moved rescues evictions_nomem busy slabs.automove all all.cursor all.mode;
      lowest = kept.lowest;
      graced = kept.graced;
      pages = kept.pages;
      per_page = kept.per_page;
      at_most = kept.at_most;
      uncut = λ chunk h.
          let on = kept.uncut chunk h in
          record { owned = on.owned; still = on.still; within = on.within; newest = on.newest };
    }

-- the chunk at the position is passed
pub IsInOrder-after_passed : (slabs : SlabState) (granted : ℕ) (found : Found) (move : Moving) → AreSlabsInOrder slabs granted → CanPass slabs found move → AreSlabsInOrder (after_passed slabs found) granted
IsInOrder-after_passed slabs granted found move kept can =
    let new : SlabState = after_passed slabs found in
    let on = λ (m : Moving). moved_on m found in
    let now = ap (λ (o : Option Moving). option_map on o) can.runs in
    let is = IsMove-passed slabs found move (kept.accounted.move move can.runs) can in
    IsInOrder-moved slabs granted new.rescues new.evictions_nomem new.busy new.moving kept (IsAccounted-moved slabs move (on move) new.moving kept.accounted can.runs now refl is)

-- the pass begins anew
pub IsInOrder-after_wrap : (slabs : SlabState) (granted : ℕ) (move : Moving) → AreSlabsInOrder slabs granted → CanWrap slabs move → AreSlabsInOrder (after_wrap slabs) granted
IsInOrder-after_wrap slabs granted move kept can =
    let new : SlabState = after_wrap slabs in
    let now = ap (λ (o : Option Moving). option_map begun_anew o) can.runs in
    let is = IsMove-anew slabs move (kept.accounted.move move can.runs) in
    IsInOrder-moved slabs granted new.rescues new.evictions_nomem new.busy new.moving kept (IsAccounted-moved slabs move (begun_anew move) new.moving kept.accounted can.runs now refl is)

-- the entries so far aren't recorded any more
pub IsInOrder-after_trim : (slabs : SlabState) (granted : ℕ) → AreSlabsInOrder slabs granted → AreSlabsInOrder (after_trim slabs) granted
IsInOrder-after_trim slabs granted kept =
    record {
      accounted = IsAccounted-trimmed slabs (length slabs.ledger) kept.accounted;
      lowest = kept.lowest;
      graced = kept.graced;
      pages = kept.pages;
      per_page = kept.per_page;
      at_most = kept.at_most;
      uncut = λ chunk h.
          let on = kept.uncut chunk h in
          record { owned = on.owned; still = on.still; within = on.within; newest = on.newest };
    }

-- the automover's mode changes
pub IsInOrder-automove : (slabs : SlabState) (granted mode : ℕ) → mode ≤ 2 → AreSlabsInOrder slabs granted → AreSlabsInOrder (record slabs { automove = mode }) granted
IsInOrder-automove slabs granted mode is kept =
    record {
      accounted = IsAccounted-numbers slabs slabs.cursor slabs.moved slabs.rescues slabs.evictions_nomem slabs.busy mode kept.accounted kept.accounted.cursor is;
      lowest = kept.lowest;
      graced = kept.graced;
      pages = kept.pages;
      per_page = kept.per_page;
      at_most = kept.at_most;
      uncut = λ chunk h.
          let on = kept.uncut chunk h in
          record { owned = on.owned; still = on.still; within = on.within; newest = on.newest };
    }
