-- What entries leave of each page: its owner as a replay has it, and which pages were granted within the limit and beyond it.
use Rattle.std.proofs.Common.{◌≡◌, ◌≢◌, ℕ, zero, suc, ◌+◌, ◌<◌, Bool, true, false, ◌&&◌, ◌==◌, nat_lt, List, [], ◌∷◌, ◌++◌, length, count_by, replicate, set, take, slice_index_or, Option, Some, None, refl, sym, ap, ◌∙◌, inl, inr, arith, ltb-true, get_or-set_same, get_or-set_other}
use Rattle.std.proofs.Math.ListN.{get_or-map}
use Rattle.std.proofs.lemmas.Bool.{and_parts, cases_Bool, cases_eq, cases_lt}
use Rattle.std.proofs.lemmas.List.{map-set, take-append-drop, get_or-replicate, get_or_past, length-replicate, length-map}
use Rattle.std.proofs.lemmas.List.Sums.{sum_by-set, sum_by-append, sum_by-cons}
use Rattle.mc_pages.specs.declared.ledger.Owner.{Owner}
use Rattle.mc_pages.specs.declared.ledger.Owner.TheVariants.{Untouched, Pool, Class, Moving}
use Rattle.mc_pages.specs.declared.ledger.BasePage.{BasePage}
use Rattle.mc_pages.specs.declared.ledger.Entry.{Entry}
use Rattle.mc_pages.specs.declared.ledger.Entry.TheVariants.{Granted, Taken, Began, Ended}
use Rattle.mc_pages.specs.Ledger.{all_untouched, fits_owner, grace_count, is_grace, is_ordinary, ordinary_count, owner_after, owner_at, page_of, replay}
use Rattle.mc_pages.specs.SlabState.{SlabState, page_count}
use Rattle.mc_pages.specs.Accounted.{truth, IsAccounted}
use Rattle.mc_pages.specs.Base.{base_pages, is_grace_of, is_within_limit, pages_after_entries, left_by_one, never_granted, owners_in, page_after, ledger_tail}
use Rattle.mc_pages.proofs.Replays.{None≢Some}

-- the page of this number
abbrev page_at : List BasePage → ℕ → BasePage
page_at pages page = slice_index_or pages page never_granted

-- whether an entry finds its page, and finds it so
abbrev is_fitting : List Owner → Entry → Bool
is_fitting owners entry = nat_lt (page_of entry) (length owners) && fits_owner entry (owner_at owners (page_of entry))

-- its owner
owner_in : (pages : List BasePage) (page : ℕ) → owner_at (owners_in pages) page ≡ (page_at pages page).owner
owner_in pages page = get_or-map (λ (p : BasePage). p.owner) pages page never_granted

-- the owners after an entry
owners_in-one : (pages : List BasePage) (entry : Entry) → owners_in (left_by_one pages entry) ≡ set (owners_in pages) (page_of entry) (owner_after entry)
owners_in-one pages entry = map-set (λ (page : BasePage). page.owner) pages (page_of entry) (page_after entry (page_at pages (page_of entry)))

-- a replay of two parts, which has owners between them
replay-between : (start owners : List Owner) (first last : List Entry) → replay start (first ++ last) ≡ Some owners → (between : List Owner) × (replay start first ≡ Some between) × (replay between last ≡ Some owners)
replay-between start owners [] last h = (start, refl, h)
replay-between start owners (entry ∷ first) last h =
    elim (cases_Bool (is_fitting start entry)) [
      | inl fitting ↦ rw fitting (replay-between (set start (page_of entry) (owner_after entry)) owners first last (rw fitting at h))
      | inr stopped ↦ absurd (None≢Some owners (rw stopped at h))
    ]

-- what entries leave is owned as their replay has it
owners-left : (pages : List BasePage) (entries : List Entry) (owners : List Owner) → replay (owners_in pages) entries ≡ Some owners → owners_in (pages_after_entries pages entries) ≡ owners
owners-left pages [] owners h = let same : owners_in pages ≡ owners = cc in same
owners-left pages (entry ∷ entries) owners h =
    elim (cases_Bool (is_fitting (owners_in pages) entry)) [
      | inl fitting ↦ owners-left (left_by_one pages entry) entries owners (ap (λ (os : List Owner). replay os entries) (owners_in-one pages entry) ∙ rw fitting at h)
      | inr stopped ↦ absurd (None≢Some owners (rw stopped at h))
    ]

-- a page that is granted within the limit is one more, and no other entry changes how many there are
within_after : (entry : Entry) (owner : Owner) (grace : Option ℕ) → fits_owner entry owner ≡ true → truth (is_within_limit (page_after entry (record { owner = owner; grace = grace }))) ≡ truth (is_within_limit (record { owner = owner; grace = grace })) + truth (is_ordinary entry)
within_after (Granted page class true) Untouched None h = refl
within_after (Granted page class true) Untouched (Some own) h = refl
within_after (Granted page class false) Untouched None h = refl
within_after (Granted page class false) Untouched (Some own) h = refl
within_after (Granted page class grace) Pool known h = cc
within_after (Granted page class grace) (Class own) known h = cc
within_after (Granted page class grace) (Moving src dst) known h = cc
within_after (Taken page class) Pool None h = refl
within_after (Taken page class) Pool (Some own) h = refl
within_after (Taken page class) Untouched known h = cc
within_after (Taken page class) (Class own) known h = cc
within_after (Taken page class) (Moving src dst) known h = cc
within_after (Began page src dst) (Class own) None h = refl
within_after (Began page src dst) (Class own) (Some class) h = refl
within_after (Began page src dst) Untouched known h = cc
within_after (Began page src dst) Pool known h = cc
within_after (Began page src dst) (Moving from to) known h = cc
within_after (Ended page dst) (Moving src to) None h =
    elim (cases_Bool (dst == 0)) [ inl pooled ↦ rw pooled refl | inr joined ↦ rw joined refl ]
within_after (Ended page dst) (Moving src to) (Some own) h = refl
within_after (Ended page dst) Untouched known h = cc
within_after (Ended page dst) Pool known h = cc
within_after (Ended page dst) (Class own) known h = cc

-- where an entry fits, its page is there, and the entry fits its owner
fitting_parts : (pages : List BasePage) (entry : Entry) → is_fitting (owners_in pages) entry ≡ true → (page_of entry < length pages) × (fits_owner entry (page_at pages (page_of entry)).owner ≡ true)
fitting_parts pages entry h =
    let parts = and_parts (nat_lt (page_of entry) (length (owners_in pages))) (fits_owner entry (owner_at (owners_in pages) (page_of entry))) h in
    (omega (arith, ltb-true _ _ parts.0, length-map pages (λ (page : BasePage). page.owner)), ap (fits_owner entry) (sym (owner_in pages (page_of entry))) ∙ parts.1)

-- one entry more
within-one : (pages : List BasePage) (entry : Entry) → is_fitting (owners_in pages) entry ≡ true → count_by is_within_limit (left_by_one pages entry) ≡ count_by is_within_limit pages + truth (is_ordinary entry)
within-one pages entry h =
    let page = page_at pages (page_of entry) in
    let parts = fitting_parts pages entry h in
    omega (arith, sum_by-set (λ (p : BasePage). truth (is_within_limit p)) pages (page_of entry) (page_after entry page) never_granted parts.0, within_after entry page.owner page.grace parts.1)

-- and all of them
within-left : (pages : List BasePage) (entries : List Entry) (owners : List Owner) → replay (owners_in pages) entries ≡ Some owners → count_by is_within_limit (pages_after_entries pages entries) ≡ count_by is_within_limit pages + ordinary_count entries
within-left pages [] owners h = omega arith
within-left pages (entry ∷ entries) owners h =
    elim (cases_Bool (is_fitting (owners_in pages) entry)) [
      | inl fitting ↦
          let rest = within-left (left_by_one pages entry) entries owners (ap (λ (os : List Owner). replay os entries) (owners_in-one pages entry) ∙ rw fitting at h) in
          omega (arith, rest, within-one pages entry fitting, sum_by-cons (λ (e : Entry). truth (is_ordinary e)) entry entries)
      | inr stopped ↦ absurd (None≢Some owners (rw stopped at h))
    ]

-- of a page that was never granted nothing is known
abbrev IsClean : List BasePage → Type 0
IsClean pages = (page : ℕ) → (page_at pages page).owner ≡ Untouched → (page_at pages page).grace ≡ None

-- a page that an entry is about was granted
owned_after : (entry : Entry) → owner_after entry ≢ Untouched
owned_after (Granted page class grace) h = cc
owned_after (Taken page class) h = cc
owned_after (Began page src dst) h = cc
owned_after (Ended page dst) h =
    elim (cases_Bool (dst == 0)) [
      | inl pooled ↦ let clash : Pool ≡ Untouched = rw pooled at h in cc
      | inr joined ↦ let clash : Class dst ≡ Untouched = rw joined at h in cc
    ]

clean-one : (pages : List BasePage) (entry : Entry) → is_fitting (owners_in pages) entry ≡ true → IsClean pages → IsClean (left_by_one pages entry)
clean-one pages entry h clean page untouched =
    let at = page_of entry in
    let new = page_after entry (page_at pages at) in
    elim (cases_eq page at) [
      | inl same ↦
          let here = ap (page_at (left_by_one pages entry)) same ∙ get_or-set_same pages at new never_granted (fitting_parts pages entry h).0 in
          absurd (owned_after entry (sym (ap (λ (p : BasePage). p.owner) here) ∙ untouched))
      | inr other ↦
          let there = get_or-set_other pages at page new never_granted other in
          ap (λ (p : BasePage). p.grace) there ∙ clean page (sym (ap (λ (p : BasePage). p.owner) there) ∙ untouched)
    ]

-- a page that a class is granted beyond the limit is one more of that class, and no other entry changes how many it has
grace_of_after : (class : ℕ) (entry : Entry) (owner : Owner) (grace : Option ℕ) → fits_owner entry owner ≡ true → (owner ≡ Untouched → grace ≡ None) → truth (is_grace_of class (page_after entry (record { owner = owner; grace = grace }))) ≡ truth (is_grace_of class (record { owner = owner; grace = grace })) + truth (is_grace class entry)
grace_of_after class (Granted page own true) Untouched None h clean = omega arith
grace_of_after class (Granted page own false) Untouched None h clean = refl
grace_of_after class (Granted page own grace) Untouched (Some other) h clean = let clash : Some other ≡ None = clean refl in cc
grace_of_after class (Granted page own grace) Pool known h clean = cc
grace_of_after class (Granted page own grace) (Class other) known h clean = cc
grace_of_after class (Granted page own grace) (Moving src dst) known h clean = cc
grace_of_after class (Taken page own) owner known h clean = omega arith
grace_of_after class (Began page src dst) owner known h clean = omega arith
grace_of_after class (Ended page dst) owner known h clean = omega arith

grace-one : (class : ℕ) (pages : List BasePage) (entry : Entry) → is_fitting (owners_in pages) entry ≡ true → IsClean pages → count_by (is_grace_of class) (left_by_one pages entry) ≡ count_by (is_grace_of class) pages + truth (is_grace class entry)
grace-one class pages entry h clean =
    let page = page_at pages (page_of entry) in
    let parts = fitting_parts pages entry h in
    omega (arith, sum_by-set (λ (p : BasePage). truth (is_grace_of class p)) pages (page_of entry) (page_after entry page) never_granted parts.0, grace_of_after class entry page.owner page.grace parts.1 (clean (page_of entry)))

grace-left : (class : ℕ) (pages : List BasePage) (entries : List Entry) (owners : List Owner) → IsClean pages → replay (owners_in pages) entries ≡ Some owners → count_by (is_grace_of class) (pages_after_entries pages entries) ≡ count_by (is_grace_of class) pages + grace_count entries class
grace-left class pages [] owners clean h = omega arith
grace-left class pages (entry ∷ entries) owners clean h =
    elim (cases_Bool (is_fitting (owners_in pages) entry)) [
      | inl fitting ↦
          let rest = grace-left class (left_by_one pages entry) entries owners (clean-one pages entry fitting clean) (ap (λ (os : List Owner). replay os entries) (owners_in-one pages entry) ∙ rw fitting at h) in
          omega (arith, rest, grace-one class pages entry fitting clean, sum_by-cons (λ (e : Entry). truth (is_grace class e)) entry entries)
      | inr stopped ↦ absurd (None≢Some owners (rw stopped at h))
    ]

-- pages of which none was granted
owners-fresh : (pages : ℕ) → owners_in (replicate pages never_granted) ≡ all_untouched pages
owners-fresh zero = refl
owners-fresh (suc pages) = ap (λ (owners : List Owner). Untouched ∷ owners) (owners-fresh pages)

none-fresh : (test : BasePage → Bool) (pages : ℕ) → test never_granted ≡ false → count_by test (replicate pages never_granted) ≡ 0
none-fresh test zero none = refl
none-fresh test (suc pages) none = omega (arith, none-fresh test pages none, ap truth none, sum_by-cons (λ (p : BasePage). truth (test p)) never_granted (replicate pages never_granted))

clean-fresh : (pages : ℕ) → IsClean (replicate pages never_granted)
clean-fresh pages page h =
    elim (cases_lt page pages) [
      | inl within ↦ ap (λ (p : BasePage). p.grace) (get_or-replicate pages page never_granted never_granted within)
      | inr past ↦ ap (λ (p : BasePage). p.grace) (get_or_past (replicate pages never_granted) page never_granted (omega (arith, past, length-replicate pages never_granted)))
    ]

-- the replays of what isn't recorded and of the rest
module _ (slabs : SlabState) (all : IsAccounted slabs) where
  abbrev fresh : List BasePage
  fresh = replicate (page_count slabs) never_granted

  parts : (between : List Owner) × (replay (all_untouched (page_count slabs)) (take slabs.trimmed slabs.ledger) ≡ Some between) × (replay between (ledger_tail slabs) ≡ Some slabs.owners)
  parts = replay-between _ slabs.owners (take slabs.trimmed slabs.ledger) (ledger_tail slabs) (ap (replay (all_untouched (page_count slabs))) (take-append-drop slabs.trimmed slabs.ledger) ∙ all.replays)

  first : replay (owners_in fresh) (take slabs.trimmed slabs.ledger) ≡ Some parts.0
  first = ap (λ (owners : List Owner). replay owners (take slabs.trimmed slabs.ledger)) (owners-fresh (page_count slabs)) ∙ parts.1

  pub replayed : replay (owners_in (base_pages slabs)) (ledger_tail slabs) ≡ Some slabs.owners
  replayed = ap (λ (owners : List Owner). replay owners (ledger_tail slabs)) (owners-left fresh (take slabs.trimmed slabs.ledger) parts.0 first) ∙ parts.2

  pub within_limit : count_by is_within_limit (base_pages slabs) + ordinary_count (ledger_tail slabs) ≡ ordinary_count slabs.ledger
  within_limit =
      omega (
        arith,
        within-left fresh (take slabs.trimmed slabs.ledger) parts.0 first,
        none-fresh is_within_limit (page_count slabs) refl,
        sum_by-append (λ (e : Entry). truth (is_ordinary e)) (take slabs.trimmed slabs.ledger) (ledger_tail slabs),
        ap ordinary_count (take-append-drop slabs.trimmed slabs.ledger),
      )

  pub beyond_limit : (class : ℕ) → count_by (is_grace_of class) (base_pages slabs) + grace_count (ledger_tail slabs) class ≡ grace_count slabs.ledger class
  beyond_limit class =
      omega (
        arith,
        grace-left class fresh (take slabs.trimmed slabs.ledger) parts.0 (clean-fresh (page_count slabs)) first,
        none-fresh (is_grace_of class) (page_count slabs) refl,
        sum_by-append (λ (e : Entry). truth (is_grace class e)) (take slabs.trimmed slabs.ledger) (ledger_tail slabs),
        ap (λ (entries : List Entry). grace_count entries class) (take-append-drop slabs.trimmed slabs.ledger),
      )
