-- A page whose chunks are all cleared leaves its class: all keep their places.
use Rattle.std.proofs.Common.{true, ◌≡◌, ◌≢◌, ℕ, ◌+◌, ◌*◌, ◌<◌, ◌==◌, Bool, false, cond, not, ◌&&◌, nat_lt, List, [], ◌∷◌, ◌++◌, length, set, filter, count_by, Option, Some, None, if◌then◌else◌, refl, sym, ap, ap₂, ◌∙◌, inl, inr, arith, eq-eqb, ne_eqb, eqb-true, ltb-true}
use Rattle.std.specs.Option.{option_map}
use Rattle.std.proofs.lemmas.Bool.{cases_eq, cases_Bool, and_parts, and_left, and_right, both_ways, false_from_ne_true}
use Rattle.std.proofs.lemmas.Option.{same_Some, none-some}
use Rattle.std.proofs.lemmas.List.Sums.{sum_by-cons, sum_by_push, length-filter}
use Rattle.std.proofs.lemmas.List.Filters.{length-filter_both}
use Rattle.mc_pages.specs.declared.ids.ChunkId.{ChunkId}
use Rattle.mc_pages.specs.declared.ids.Moving.{Moving}
use Rattle.mc_pages.specs.declared.ledger.Owner.{Owner}
use Rattle.mc_pages.specs.declared.ledger.Owner.TheVariants.{Pool}
use Rattle.mc_pages.specs.Ledger.{owner_at}
use Rattle.mc_pages.specs.ClassState.{ClassState, times_in, without_page}
use Rattle.mc_pages.specs.SlabState.{SlabState, HasClass, class_at}
use Rattle.mc_pages.specs.Moves.{after_page_release, CanFinish}
use Rattle.mc_pages.specs.Accounted.{truth, is_of_class, is_pool, is_moving, cut_count, uncut_count, is_cut, places_in, is_cleared, first_chunks, cleared_count, IsMove}
use Rattle.mc_pages.proofs.Owners.{within_from_is_of_class, owner_at-set_same, owner_at-set_other}
use Rattle.mc_pages.proofs.OneClass.{IsClass-with_class, class_at-with_class_same, class_at-with_class_other, class_at-with_class_kept}
use Rattle.mc_pages.proofs.Cleared.{count_by-none, is_cleared-still}
use Rattle.mc_pages.proofs.FirstChunks.{chunk_of, count_by-first_all}
use Rattle.mc_pages.proofs.Redistributed.{IsClass-before}
use Rattle.mc_pages.proofs.Placed.{ArePlaced}
use Rattle.mc_pages.proofs.GivenPage.{owner-set_alike}

-- a page that left a list doesn't stand there
count-filter_same : (page : ℕ) (pages : List ℕ) → count_by (λ p. p == page) (filter (λ p. not (p == page)) pages) ≡ 0
count-filter_same page [] = refl
count-filter_same page (p ∷ pages) =
    let rest = filter (λ q. not (q == page)) pages in
    let counted = λ (b : Bool). count_by (λ q. q == page) (cond (not b) (p ∷ rest) rest) in
    elim (cases_Bool (p == page)) [
      | inl same ↦ ap counted same ∙ count-filter_same page pages
      | inr differs ↦ omega (arith, ap counted differs, sum_by-cons (λ q. truth (q == page)) p rest, ap truth differs, count-filter_same page pages)
    ]

-- another stands there as often as before
count-filter_other : (page other : ℕ) (pages : List ℕ) → other ≢ page → count_by (λ p. p == other) (filter (λ p. not (p == page)) pages) ≡ count_by (λ p. p == other) pages
count-filter_other page other [] apart = refl
count-filter_other page other (p ∷ pages) apart =
    let rest = filter (λ q. not (q == page)) pages in
    let counted = λ (b : Bool). count_by (λ q. q == other) (cond (not b) (p ∷ rest) rest) in
    let before = sum_by-cons (λ q. truth (q == other)) p pages in
    elim (cases_Bool (p == page)) [
      | inl same ↦
          let none = ap truth (ne_eqb p other (λ e. apart (sym e ∙ eqb-true p page same))) in
          omega (arith, ap counted same, before, none, count-filter_other page other pages apart)
      | inr differs ↦ omega (arith, ap counted differs, sum_by-cons (λ q. truth (q == other)) p rest, before, count-filter_other page other pages apart)
    ]

-- a list that a page leaves is shorter by as many as it stood there
pub length-filter_page : (page : ℕ) (pages : List ℕ) → length (filter (λ p. not (p == page)) pages) + count_by (λ p. p == page) pages ≡ length pages
length-filter_page page pages =
    omega (arith, length-filter_both (λ p. p == page) (λ p. not (p == page)) (λ p. refl) pages, length-filter (λ p. p == page) pages)

-- a page that moves is one of the pages
pub within_from_IsMove : (slabs : SlabState) (move : Moving) → IsMove slabs move → move.page < length slabs.owners
within_from_IsMove slabs move is =
    within_from_is_of_class move.src move.page slabs.owners (ap (λ (o : Owner). is_of_class move.src o) is.owner ∙ eq-eqb move.src move.src refl)

-- every other page stands still
pub still_but_move : (slabs : SlabState) (move : Moving) (page : ℕ) → ArePlaced slabs → slabs.moving ≡ Some move → page ≢ move.page → is_moving (owner_at slabs.owners page) ≡ false
still_but_move slabs move page all runs apart =
    false_from_ne_true _ (λ e. apart (same_Some page move.page (sym (all.one_move page e) ∙ ap (λ (o : Option Moving). option_map (λ (m : Moving). m.page) o) runs)))

-- no page moves any more
still-released : (slabs : SlabState) (move : Moving) → ArePlaced slabs → slabs.moving ≡ Some move → (page : ℕ) → is_moving (owner_at (set slabs.owners move.page Pool) page) ≡ false
still-released slabs move all runs page =
    let within = within_from_IsMove slabs move (all.move move runs) in
    elim (cases_eq page move.page) [
      | inl same ↦ ap (λ (p : ℕ). is_moving (owner_at (set slabs.owners move.page Pool) p)) same ∙ ap is_moving (owner_at-set_same slabs.owners move.page Pool within)
      | inr differs ↦ ap is_moving (owner_at-set_other slabs.owners move.page page Pool differs) ∙ still_but_move slabs move page all runs differs
    ]

-- each class's pages keep their places
pages-released : (slabs : SlabState) (move : Moving) → ArePlaced slabs → IsMove slabs move → (class other : ℕ) → HasClass slabs class → count_by (λ p. p == other) (class_at (after_page_release slabs move.page move.src) class).pages ≡ truth (is_of_class class (owner_at (set slabs.owners move.page Pool) other))
pages-released slabs move all of class other here =
    let new : SlabState = after_page_release slabs move.page move.src in
    let state = without_page (class_at slabs move.src) move.page in
    let within = within_from_IsMove slabs move of in
    let counted = λ (c : ClassState). count_by (λ p. p == other) c.pages in
    let before = all.pages class other here in
    elim (cases_eq class move.src) [
      | inl same ↦
          let now = ap (λ (n : ℕ). counted (class_at new n)) same ∙ ap counted (class_at-with_class_same slabs move.src state of.src) in
          let was = ap (λ (n : ℕ). counted (class_at slabs n)) same in
          elim (cases_eq other move.page) [
            | inl page ↦
                let none = ap (λ (n : ℕ). count_by (λ p. p == n) (filter (λ p. not (p == move.page)) (class_at slabs move.src).pages)) page ∙ count-filter_same move.page (class_at slabs move.src).pages in
                let owner = ap (λ (p : ℕ). truth (is_of_class class (owner_at (set slabs.owners move.page Pool) p))) page ∙ ap (λ (o : Owner). truth (is_of_class class o)) (owner_at-set_same slabs.owners move.page Pool within) in
                now ∙ (none ∙ sym owner)
            | inr apart ↦
                let kept = count-filter_other move.page other (class_at slabs move.src).pages apart in
                let owner = ap (λ (o : Owner). truth (is_of_class class o)) (owner_at-set_other slabs.owners move.page other Pool apart) in
                now ∙ (kept ∙ (sym was ∙ (before ∙ sym owner)))
          ]
      | inr differs ↦
          let now = ap counted (class_at-with_class_other slabs move.src class state of.src.0 here.0 differs) in
          let not_of : is_of_class class (owner_at slabs.owners move.page) ≡ false = ap (λ (o : Owner). is_of_class class o) of.owner ∙ ne_eqb move.src class (λ e. differs (sym e)) in
          let owner = owner-set_alike (λ (o : Owner). is_of_class class o) slabs.owners move.page other Pool within (sym not_of) in
          now ∙ (before ∙ ap truth (sym owner))
    ]

-- a chunk of the page has no place
none_placed : (slabs : SlabState) (move : Moving) → ArePlaced slabs → IsMove slabs move → slabs.uncut ≡ None → CanFinish slabs move → (class : ℕ) (chunk : ChunkId) → HasClass slabs class → chunk.page ≡ move.page → places_in slabs class chunk ≡ 0
none_placed slabs move all of whole can class chunk here on =
    elim (cases_Bool (is_cut slabs class chunk)) [
      | inl cut ↦
          let parts = and_parts _ _ cut in
          let owner = ap (λ (p : ℕ). is_of_class class (owner_at slabs.owners p)) on ∙ ap (λ (o : Owner). is_of_class class o) of.owner in
          let src : move.src ≡ class = eqb-true move.src class (sym owner ∙ parts.0) in
          let count = ap (λ (o : Option ChunkId). cut_count o chunk.page (class_at slabs class).per_page) whole in
          let below = ltb-true _ _ parts.1 in
          let size = ap (λ (n : ℕ). (class_at slabs n).per_page) src in
          let cleared = and_parts _ _ (can.all_cleared chunk.index (omega (arith, below, count, size))) in
          let none = eqb-true _ _ cleared.1 in
          let named = ap (λ (p : ℕ). places_in slabs class (chunk_of p chunk.index)) on in
          named ∙ (ap (λ (n : ℕ). places_in slabs n (chunk_of move.page chunk.index)) (sym src) ∙ none)
      | inr uncut ↦ omega (arith, all.chunks class chunk here, ap truth uncut)
    ]

-- each class's chunks keep their places
chunks-released : (slabs : SlabState) (move : Moving) → ArePlaced slabs → IsMove slabs move → slabs.uncut ≡ None → CanFinish slabs move → (class : ℕ) (chunk : ChunkId) → HasClass slabs class → places_in (after_page_release slabs move.page move.src) class chunk + truth (is_cleared (after_page_release slabs move.page move.src) class chunk) ≡ truth (is_cut (after_page_release slabs move.page move.src) class chunk)
chunks-released slabs move all of whole can class chunk here =
    let new : SlabState = after_page_release slabs move.page move.src in
    let state = without_page (class_at slabs move.src) move.page in
    let within = within_from_IsMove slabs move of in
    let places = class_at-with_class_kept (λ c. times_in chunk c.free + times_in chunk c.order) slabs move.src class state of.src here.0 refl in
    let size = class_at-with_class_kept (λ c. c.per_page) slabs move.src class state of.src here.0 refl in
    let cleared = is_cleared-still new class chunk (still-released slabs move all can.runs chunk.page) in
    elim (cases_eq chunk.page move.page) [
      | inl on ↦
          let owner = ap (λ (p : ℕ). is_of_class class (owner_at new.owners p)) on ∙ ap (λ (o : Owner). is_of_class class o) (owner_at-set_same slabs.owners move.page Pool within) in
          let cut : is_cut new class chunk ≡ false = and_left _ _ owner in
          omega (arith, places, none_placed slabs move all of whole can class chunk here on, ap truth cleared, ap truth cut)
      | inr apart ↦
          let owner = owner_at-set_other slabs.owners move.page chunk.page Pool apart in
          let cut : is_cut new class chunk ≡ is_cut slabs class chunk = ap₂ (λ (o : Owner) (n : ℕ). is_of_class class o && nat_lt chunk.index (cut_count slabs.uncut chunk.page n)) owner size in
          let before = is_cleared-still slabs class chunk (still_but_move slabs move chunk.page all can.runs apart) in
          omega (arith, places, ap truth cleared, ap truth cut, ap truth before, all.chunks class chunk here)
    ]

-- all chunks of the page are cleared, and no other class has a cleared one
pub cleared_at_end : (slabs : SlabState) (move : Moving) → ArePlaced slabs → IsMove slabs move → CanFinish slabs move → (class : ℕ) → cleared_count slabs class slabs.moving ≡ (if class == move.src then (class_at slabs move.src).per_page else 0)
cleared_at_end slabs move all of can class =
    let runs = ap (λ (o : Option Moving). cleared_count slabs class o) can.runs in
    elim (cases_eq class move.src) [
      | inl same ↦
          let test = ap (λ b. if b then (class_at slabs move.src).per_page else 0) (eq-eqb class move.src same) in
          let own = ap (λ (n : ℕ). cleared_count slabs n (Some move)) same in
          let every = count_by-first_all (is_cleared slabs move.src) move.page (class_at slabs move.src).per_page can.all_cleared in
          runs ∙ (own ∙ (every ∙ sym test))
      | inr differs ↦
          let test = ap (λ b. if b then (class_at slabs move.src).per_page else 0) (ne_eqb class move.src differs) in
          let none = count_by-none (is_cleared slabs class) (first_chunks move.page (class_at slabs class).per_page) (λ chunk.
          elim (cases_eq chunk.page move.page) [
            | inl on ↦
                let owner : is_of_class class (owner_at slabs.owners chunk.page) ≡ false = ap (λ (p : ℕ). is_of_class class (owner_at slabs.owners p)) on ∙ (ap (λ (o : Owner). is_of_class class o) of.owner ∙ ne_eqb move.src class (λ e. differs (sym e))) in
                let cut : is_cut slabs class chunk ≡ false = and_left _ _ owner in
                and_left _ _ (and_right _ _ cut)
            | inr apart ↦ is_cleared-still slabs class chunk (still_but_move slabs move chunk.page all can.runs apart)
          ]) in
          runs ∙ (none ∙ sym test)
    ]

-- the number of chunks of each class stays: the page's are gone
total-released : (slabs : SlabState) (move : Moving) → ArePlaced slabs → IsMove slabs move → slabs.uncut ≡ None → CanFinish slabs move → (class : ℕ) → HasClass slabs class → length (class_at (after_page_release slabs move.page move.src) class).free + length (class_at (after_page_release slabs move.page move.src) class).order + uncut_count (after_page_release slabs move.page move.src) class slabs.uncut + 0 ≡ length (class_at (after_page_release slabs move.page move.src) class).pages * (class_at (after_page_release slabs move.page move.src) class).per_page
total-released slabs move all of whole can class here =
    let new : SlabState = after_page_release slabs move.page move.src in
    let state = without_page (class_at slabs move.src) move.page in
    let lists = class_at-with_class_kept (λ c. length c.free + length c.order) slabs move.src class state of.src here.0 refl in
    let size = class_at-with_class_kept (λ c. c.per_page) slabs move.src class state of.src here.0 refl in
    let uncut = ap (λ (o : Option ChunkId). uncut_count slabs class o) whole in
    let uncut_now = ap (λ (o : Option ChunkId). uncut_count new class o) whole in
    let cleared = cleared_at_end slabs move all of can class in
    let before = all.total class here in
    elim (cases_eq class move.src) [
      | inl same ↦
          let now = ap (λ (n : ℕ). length (class_at new n).pages) same ∙ ap (λ (c : ClassState). length c.pages) (class_at-with_class_same slabs move.src state of.src) in
          let was = ap (λ (n : ℕ). length (class_at slabs n).pages) same in
          let one = all.pages move.src move.page of.src ∙ (ap (λ (o : Owner). truth (is_of_class move.src o)) of.owner ∙ ap truth (eq-eqb move.src move.src refl)) in
          let fewer : length (class_at slabs class).pages ≡ length (class_at new class).pages + 1 = omega (arith, now, was, one, length-filter_page move.page (class_at slabs move.src).pages) in
          let test = ap (λ b. if b then (class_at slabs move.src).per_page else 0) (eq-eqb class move.src same) in
          let own = ap (λ (n : ℕ). (class_at slabs n).per_page) same in
          let product = ap₂ (λ (m n : ℕ). m * n) fewer (sym size) in
          omega (arith, lists, size, uncut, uncut_now, cleared, test, own, before, product)
      | inr differs ↦
          let other = class_at-with_class_other slabs move.src class state of.src.0 here.0 differs in
          let test = ap (λ b. if b then (class_at slabs move.src).per_page else 0) (ne_eqb class move.src differs) in
          let product = ap (λ (c : ClassState). length c.pages * c.per_page) other in
          omega (arith, lists, uncut, uncut_now, cleared, test, before, product)
    ]

-- the pool has the page once more
pool-released : (slabs : SlabState) (move : Moving) → ArePlaced slabs → IsMove slabs move → (other : ℕ) → count_by (λ p. p == other) (slabs.pool ++ move.page ∷ []) ≡ truth (is_pool (owner_at (set slabs.owners move.page Pool) other))
pool-released slabs move all of other =
    let within = within_from_IsMove slabs move of in
    let more = sum_by_push (λ p. truth (p == other)) slabs.pool move.page in
    let pooled = λ (o : Owner). truth (is_pool o) in
    elim (cases_eq other move.page) [
      | inl same ↦
          let now = ap (λ (p : ℕ). pooled (owner_at (set slabs.owners move.page Pool) p)) same ∙ ap pooled (owner_at-set_same slabs.owners move.page Pool within) in
          let was = ap (λ (p : ℕ). pooled (owner_at slabs.owners p)) same ∙ ap pooled of.owner in
          omega (arith, more, now, was, all.pool other, ap truth (eq-eqb move.page other (sym same)))
      | inr differs ↦
          let now = ap pooled (owner_at-set_other slabs.owners move.page other Pool differs) in
          omega (arith, more, now, all.pool other, ap truth (ne_eqb move.page other (λ e. differs (sym e))))
    ]

-- the page is of no class any more, and every other page is of one of the classes as before
owned-released : (slabs : SlabState) (move : Moving) → ArePlaced slabs → IsMove slabs move → (class other : ℕ) → is_of_class class (owner_at (set slabs.owners move.page Pool) other) ≡ true → HasClass slabs class
owned-released slabs move all of class other h =
    elim (cases_eq other move.page) [
      | inl same ↦
          let owner = ap (λ (p : ℕ). is_of_class class (owner_at (set slabs.owners move.page Pool) p)) same ∙ ap (λ (o : Owner). is_of_class class o) (owner_at-set_same slabs.owners move.page Pool (within_from_IsMove slabs move of)) in
          absurd (both_ways _ owner h)
      | inr differs ↦ all.owned class other (sym (ap (λ (o : Owner). is_of_class class o) (owner_at-set_other slabs.owners move.page other Pool differs)) ∙ h)
    ]

-- the page leaves its class
pub ArePlaced-released : (slabs : SlabState) (move : Moving) → ArePlaced slabs → slabs.uncut ≡ None → CanFinish slabs move → ArePlaced (after_page_release slabs move.page move.src)
ArePlaced-released slabs move all whole can =
    let of = all.move move can.runs in
    let state = without_page (class_at slabs move.src) move.page in
    let before = λ (class : ℕ) (here : HasClass (after_page_release slabs move.page move.src) class). IsClass-before slabs move.src class state here in
    record {
      pages = λ class other here. pages-released slabs move all of class other (before class here);
      owned = λ class other h. IsClass-with_class slabs move.src class state (owned-released slabs move all of class other h);
      pool = λ other. pool-released slabs move all of other;
      one_move = λ page h. absurd (both_ways _ (still-released slabs move all can.runs page) h);
      move = λ other h. absurd (none-some other h);
      chunks = λ class chunk here. chunks-released slabs move all of whole can class chunk (before class here);
      total = λ class here. total-released slabs move all of whole can class (before class here);
    }
