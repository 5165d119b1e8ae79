-- A page that no class has is given to a class: all keep their places.
use Rattle.std.proofs.Common.{◌≡◌, ◌≢◌, ℕ, ◌+◌, ◌-◌, ◌*◌, ◌<◌, ◌≤◌, ◌==◌, Bool, true, false, ◌&&◌, nat_lt, List, [], ◌∷◌, length, set, count_by, Option, Some, None, if◌then◌else◌, refl, sym, ap, ap₂, ◌∙◌, inl, inr, arith, eq-eqb, eqb-true, ne_eqb, le-ltb, length-append, subst}
use Rattle.std.proofs.lemmas.Bool.{cases_eq, and_left, and_right, both_ways}
use Rattle.std.proofs.lemmas.List.Sums.{sum_by_push}
use Rattle.mc_pages.specs.declared.ids.ChunkId.{ChunkId}
use Rattle.mc_pages.specs.declared.ids.Moving.{Moving}
use Rattle.mc_pages.specs.declared.ledger.Owner.{Owner}
use Rattle.mc_pages.specs.declared.ledger.Owner.TheVariants.{Class}
use Rattle.mc_pages.specs.Ledger.{owner_at}
use Rattle.mc_pages.specs.ClassState.{ClassState, times_in, with_page}
use Rattle.mc_pages.specs.SlabState.{SlabState, HasClass, class_at}
use Rattle.mc_pages.specs.Changes.{with_given}
use Rattle.mc_pages.specs.Accounted.{truth, is_of_class, is_pool, is_moving, cut_count, uncut_count, is_cut, cleared_count, IsMove}
use Rattle.mc_pages.proofs.Owners.{owner_at-set_same, owner_at-set_other}
use Rattle.mc_pages.proofs.OneClass.{length-with_class, IsClass-with_class, class_at-with_class_same, class_at-with_class_other, class_at-with_class_kept}
use Rattle.mc_pages.proofs.Cleared.{ClearsAlike, is_cleared-alike, cleared_count-alike, IsMove-alike}
use Rattle.mc_pages.proofs.Redistributed.{IsClass-before}
use Rattle.mc_pages.proofs.Placed.{ArePlaced}

-- the owner is no class, and doesn't move
pub record IsNoClass (owner : Owner) : Type 0 where
  pub of_class : (class : ℕ) → is_of_class class owner ≡ false
  pub still : is_moving owner ≡ false

-- a test beside one that holds
and-true_at : (a b : Bool) → b ≡ true → truth (a && b) ≡ truth a
and-true_at true b h = ap truth h
and-true_at false b h = refl

-- the given page is one more page of its class, and of no other
is_of_class-given : (owners : List Owner) (class other page given : ℕ) → page < length owners → is_of_class class (owner_at owners page) ≡ false → truth (is_of_class class (owner_at (set owners page (Class given)) other)) ≡ truth (is_of_class class (owner_at owners other)) + truth ((page == other) && (given == class))
is_of_class-given owners class other page given within free =
    let of = λ (o : Owner). truth (is_of_class class o) in
    elim (cases_eq other page) [
      | inl same ↦
          let now = ap (λ (p : ℕ). of (owner_at (set owners page (Class given)) p)) same ∙ ap of (owner_at-set_same owners page (Class given) within) in
          let before = ap (λ (p : ℕ). of (owner_at owners p)) same ∙ ap truth free in
          let here = ap (λ b. truth (b && (given == class))) (eq-eqb page other (sym same)) in
          omega (arith, now, before, here)
      | inr differs ↦
          let now = ap of (owner_at-set_other owners page other (Class given) differs) in
          let here = ap (λ b. truth (b && (given == class))) (ne_eqb page other (λ same. differs (sym same))) in
          omega (arith, now, here)
    ]

-- what is said alike of a page's owner before and after has not changed for any page
pub owner-set_alike : {T : Type 0} (part : Owner → T) (owners : List Owner) (page other : ℕ) (owner : Owner) → page < length owners → part owner ≡ part (owner_at owners page) → part (owner_at (set owners page owner) other) ≡ part (owner_at owners other)
owner-set_alike {T} part owners page other owner within alike =
    elim (cases_eq other page) [
      | inl same ↦
          let now = ap (λ (p : ℕ). part (owner_at (set owners page owner) p)) same ∙ ap part (owner_at-set_same owners page owner within) in
          let before = ap (λ (p : ℕ). part (owner_at owners p)) same in
          now ∙ (alike ∙ sym before)
      | inr differs ↦ ap part (owner_at-set_other owners page other owner differs)
    ]

-- each class's pages keep their places
pages-given : (slabs : SlabState) (given page : ℕ) → ArePlaced slabs → HasClass slabs given → page < length slabs.owners → IsNoClass (owner_at slabs.owners page) → (class other : ℕ) → HasClass slabs class → count_by (λ p. p == other) (class_at (with_given slabs given page) class).pages ≡ truth (is_of_class class (owner_at (with_given slabs given page).owners other))
pages-given slabs given page all is within free class other here =
    let new : SlabState = with_given slabs given page in
    let state = with_page (class_at slabs given) page in
    let counted = λ (c : ClassState). count_by (λ p. p == other) c.pages in
    let owner = is_of_class-given slabs.owners class other page given within (free.of_class class) in
    let before = all.pages class other here in
    elim (cases_eq class given) [
      | inl same ↦
          let now = ap (λ (n : ℕ). counted (class_at new n)) same ∙ ap counted (class_at-with_class_same slabs given state is) in
          let was = ap (λ (n : ℕ). counted (class_at slabs n)) same in
          let push = sum_by_push (λ p. truth (p == other)) (class_at slabs given).pages page in
          let one : truth ((page == other) && (given == class)) ≡ truth (page == other) = and-true_at (page == other) (given == class) (eq-eqb given class (sym same)) in
          omega (arith, now, was, push, one, owner, before)
      | inr differs ↦
          let now = ap counted (class_at-with_class_other slabs given class state is.0 here.0 differs) in
          let none : truth ((page == other) && (given == class)) ≡ 0 = ap truth (and_right (page == other) (given == class) (ne_eqb given class (λ same. differs (sym same)))) in
          omega (arith, now, none, owner, before)
    ]

-- the chunks that were cut are the same: none of the page is
is_cut-given : (slabs : SlabState) (given page : ℕ) → HasClass slabs given → slabs.uncut ≡ None → IsNoClass (owner_at slabs.owners page) → (class : ℕ) (chunk : ChunkId) → HasClass slabs class → is_cut (with_given slabs given page) class chunk ≡ is_cut slabs class chunk
is_cut-given slabs given page is whole free class chunk here =
    let new : SlabState = with_given slabs given page in
    let state = with_page (class_at slabs given) page in
    let size = class_at-with_class_kept (λ c. c.per_page) slabs given class state is here.0 refl in
    let per_page = (class_at new class).per_page in
    let first : ChunkId = record { page = page; index = 0 } in
    elim (cases_eq chunk.page page) [
      | inl same ↦
          let cut : cut_count (Some first) chunk.page per_page ≡ 0 = ap (λ b. if b then 0 else per_page) (eq-eqb page chunk.page (sym same)) in
          let none = ap (λ (n : ℕ). nat_lt chunk.index n) cut ∙ le-ltb chunk.index 0 (omega arith) in
          let was = ap (λ (p : ℕ). is_of_class class (owner_at slabs.owners p)) same ∙ free.of_class class in
          and_right _ _ none ∙ sym (and_left _ _ was)
      | inr differs ↦
          let cut : cut_count (Some first) chunk.page per_page ≡ per_page = ap (λ b. if b then 0 else per_page) (ne_eqb page chunk.page (λ same. differs (sym same))) in
          let before = ap (λ (o : Option ChunkId). cut_count o chunk.page (class_at slabs class).per_page) whole in
          ap₂ (λ (o : Owner) (n : ℕ). is_of_class class o && nat_lt chunk.index n) (owner_at-set_other slabs.owners page chunk.page (Class given) differs) (cut ∙ (size ∙ sym before))
    ]

-- no chunk is cleared by it
ClearsAlike-given : (slabs : SlabState) (given page : ℕ) → HasClass slabs given → slabs.uncut ≡ None → page < length slabs.owners → IsNoClass (owner_at slabs.owners page) → ClearsAlike slabs (with_given slabs given page)
ClearsAlike-given slabs given page is whole within free =
    let new : SlabState = with_given slabs given page in
    let state = with_page (class_at slabs given) page in
    record {
      classes = length-with_class slabs given state;
      per_page = λ class here. class_at-with_class_kept (λ c. c.per_page) slabs given class state is here.0 refl;
      cleared = λ class chunk here.
          let places = class_at-with_class_kept (λ c. times_in chunk c.free + times_in chunk c.order) slabs given class state is here.0 refl in
          let moving = owner-set_alike is_moving slabs.owners page chunk.page (Class given) within (sym free.still) in
          is_cleared-alike slabs new class chunk moving (is_cut-given slabs given page is whole free class chunk here) places;
    }

-- the number of chunks of each class stays: all of the page are uncut
total-given : (slabs : SlabState) (given page : ℕ) → ArePlaced slabs → HasClass slabs given → slabs.uncut ≡ None → page < length slabs.owners → IsNoClass (owner_at slabs.owners page) → (class : ℕ) → HasClass slabs class → length (class_at (with_given slabs given page) class).free + length (class_at (with_given slabs given page) class).order + uncut_count (with_given slabs given page) class (with_given slabs given page).uncut + cleared_count (with_given slabs given page) class slabs.moving ≡ length (class_at (with_given slabs given page) class).pages * (class_at (with_given slabs given page) class).per_page
total-given slabs given page all is whole within free class here =
    let new : SlabState = with_given slabs given page in
    let state = with_page (class_at slabs given) page in
    let kept = class_at-with_class_kept (λ c. length c.free + length c.order) slabs given class state is here.0 refl in
    let size = class_at-with_class_kept (λ c. c.per_page) slabs given class state is here.0 refl in
    let cleared = cleared_count-alike slabs new class slabs.moving (ClearsAlike-given slabs given page is whole within free) here in
    let before = ap (λ (o : Option ChunkId). length (class_at slabs class).free + length (class_at slabs class).order + uncut_count slabs class o + cleared_count slabs class slabs.moving) (sym whole) ∙ all.total class here in
    let owner = ap (λ (o : Owner). is_of_class class o) (owner_at-set_same slabs.owners page (Class given) within) in
    elim (cases_eq class given) [
      | inl same ↦
          let now = ap (λ (n : ℕ). length (class_at new n).pages) same ∙ (ap (λ (c : ClassState). length c.pages) (class_at-with_class_same slabs given state is) ∙ length-append (class_at slabs given).pages (page ∷ [])) in
          let was = ap (λ (n : ℕ). length (class_at slabs n).pages) same in
          let more : length (class_at new class).pages ≡ length (class_at slabs class).pages + 1 = omega (arith, now, was) in
          let uncut = ap (λ b. if b then (class_at new class).per_page - 0 else 0) (owner ∙ eq-eqb given class (sym same)) in
          let product = ap₂ (λ (m n : ℕ). m * n) more size in
          omega (arith, kept, size, before, uncut, cleared, product)
      | inr differs ↦
          let other = class_at-with_class_other slabs given class state is.0 here.0 differs in
          let uncut = ap (λ b. if b then (class_at new class).per_page - 0 else 0) (owner ∙ ne_eqb given class (λ same. differs (sym same))) in
          let product = ap (λ (c : ClassState). length c.pages * c.per_page) other in
          omega (arith, kept, before, uncut, cleared, product)
    ]

-- no class has fewer pages
pages-given_more : (slabs : SlabState) (given page class : ℕ) → HasClass slabs given → HasClass slabs class → length (class_at slabs class).pages ≤ length (class_at (with_given slabs given page) class).pages
pages-given_more slabs given page class is here =
    let new : SlabState = with_given slabs given page in
    let state = with_page (class_at slabs given) page in
    elim (cases_eq class given) [
      | inl same ↦
          let now = ap (λ (n : ℕ). length (class_at new n).pages) same ∙ ap (λ (c : ClassState). length c.pages) (class_at-with_class_same slabs given state is) in
          let was = ap (λ (n : ℕ). length (class_at slabs n).pages) same in
          omega (arith, now, was, length-append (class_at slabs given).pages (page ∷ []))
      | inr differs ↦
          let other = class_at-with_class_other slabs given class state is.0 here.0 differs in
          omega (arith, ap (λ (c : ClassState). length c.pages) other)
    ]

-- the page is of the class that it was given to, and every other page is of one of the classes as before
owned-given : (slabs : SlabState) (given page : ℕ) → ArePlaced slabs → HasClass slabs given → page < length slabs.owners → (class other : ℕ) → is_of_class class (owner_at (set slabs.owners page (Class given)) other) ≡ true → HasClass slabs class
owned-given slabs given page all is within class other h =
    elim (cases_eq other page) [
      | inl same ↦
          let owner = ap (λ (p : ℕ). is_of_class class (owner_at (set slabs.owners page (Class given)) p)) same ∙ ap (λ (o : Owner). is_of_class class o) (owner_at-set_same slabs.owners page (Class given) within) in
          subst (λ (n : ℕ). HasClass slabs n) (eqb-true given class (sym owner ∙ h)) is
      | inr differs ↦ all.owned class other (sym (ap (λ (o : Owner). is_of_class class o) (owner_at-set_other slabs.owners page other (Class given) differs)) ∙ h)
    ]

-- a move is one of another page
IsMove-given : (slabs : SlabState) (given page : ℕ) (move : Moving) → HasClass slabs given → slabs.uncut ≡ None → page < length slabs.owners → IsNoClass (owner_at slabs.owners page) → IsMove slabs move → IsMove (with_given slabs given page) move
IsMove-given slabs given page move is whole within free of =
    let apart : move.page ≢ page = λ same. both_ways (is_moving (owner_at slabs.owners page)) free.still (ap (λ (p : ℕ). is_moving (owner_at slabs.owners p)) (sym same) ∙ ap is_moving of.owner) in
    IsMove-alike slabs (with_given slabs given page) move (ClearsAlike-given slabs given page is whole within free) (owner_at-set_other slabs.owners page move.page (Class given) apart) (pages-given_more slabs given page move.src is of.src) of

-- a page that no class has is given to one, with the pool then
pub ArePlaced-given : (slabs : SlabState) (given page : ℕ) (pool : List ℕ) → ArePlaced slabs → HasClass slabs given → slabs.uncut ≡ None → page < length slabs.owners → IsNoClass (owner_at slabs.owners page) → ((other : ℕ) → count_by (λ p. p == other) pool ≡ truth (is_pool (owner_at (set slabs.owners page (Class given)) other))) → ArePlaced (record (with_given slabs given page) { pool = pool })
ArePlaced-given slabs given page pool all is whole within free pooled =
    let state = with_page (class_at slabs given) page in
    let new : SlabState = with_given slabs given page in
    record {
      pages = λ class other here. pages-given slabs given page all is within free class other (IsClass-before slabs given class state here);
      owned = λ class other h. IsClass-with_class slabs given class state (owned-given slabs given page all is within class other h);
      pool = pooled;
      one_move = λ other h. all.one_move other (sym (owner-set_alike is_moving slabs.owners page other (Class given) within (sym free.still)) ∙ h);
      move = λ move h.
          let of = IsMove-given slabs given page move is whole within free (all.move move h) in
          record { owner = of.owner; src = of.src; spare = of.spare; dst = of.dst; apart = of.apart; within = of.within; busy = of.busy; passed = of.passed };
      chunks = λ class chunk here.
          let before = IsClass-before slabs given class state here in
          let places = class_at-with_class_kept (λ c. times_in chunk c.free + times_in chunk c.order) slabs given class state is before.0 refl in
          let cut = is_cut-given slabs given page is whole free class chunk before in
          let cleared = (ClearsAlike-given slabs given page is whole within free).cleared class chunk before in
          omega (arith, places, ap truth cut, ap truth cleared, all.chunks class chunk before);
      total = λ class here. total-given slabs given page all is whole within free class (IsClass-before slabs given class state here);
    }
