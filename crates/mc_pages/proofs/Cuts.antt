-- A page is cut, one chunk after another.
use Rattle.std.proofs.Common.{◌≡◌, ℕ, ◌+◌, ◌-◌, List, [], ◌∷◌, get_or, Option, Some, None, refl, ap, sym, ◌∙◌, zero-add}
use Rattle.std.specs.Prelude.{fold, map, nat_lt, if◌then◌else◌}
use Rattle.std.proofs.Math.ListN.{get_or-map}
use Rattle.std.proofs.lemmas.List.Sums.{fold-append}
use Rattle.std.proofs.lemmas.List.FromFn.{map-range_with_len_more}
use Rattle.mc_pages.specs.declared.ids.ChunkId.{ChunkId}
use Rattle.mc_pages.specs.declared.ledger.Owner.{Owner}
use Rattle.mc_pages.specs.ClassState.{ClassState, new_class}
use Rattle.mc_pages.specs.SlabState.{SlabState, class_at, class_of_owner, class_of_page, class_of_chunk}
use Rattle.mc_pages.specs.Ledger.{owner_at}
use Rattle.mc_pages.specs.Changes.{after_cut}
use Rattle.mc_pages.specs.Accounted.{first_chunks}
use Rattle.mc_pages.proofs.ClassChanges.{per_pages-cuts, owners-cuts}

-- a chunk by its page and its place there
abbrev pub chunk_at : ℕ → ℕ → ChunkId
chunk_at page index = record { page = page; index = index }

-- the chunk that is cut next, where so many of the page's are cut
abbrev pub next_cut : ℕ → ℕ → ℕ → Option ChunkId
next_cut page per_page index = if nat_lt index per_page then Some (chunk_at page index) else None

-- the classes' chunks a page tell those of one class
pub per_page-map : (old new : SlabState) (class : ℕ)
    → map (λ (c : ClassState). c.per_page) new.classes ≡ map (λ (c : ClassState). c.per_page) old.classes
    → (class_at new class).per_page ≡ (class_at old class).per_page
per_page-map old new class same =
    sym (get_or-map (λ (c : ClassState). c.per_page) new.classes (class - 1) (new_class 0 0))
    ∙ ap (λ ns. get_or ns (class - 1) 0) same
    ∙ get_or-map (λ (c : ClassState). c.per_page) old.classes (class - 1) (new_class 0 0)

-- cutting chunks leaves how many chunks a page has
pub per_page-cuts : (slabs : SlabState) (chunks : List ChunkId) (x : ChunkId)
    → (class_of_chunk (fold after_cut slabs chunks) x).per_page ≡ (class_of_chunk slabs x).per_page
per_page-cuts slabs chunks x =
    per_page-map slabs (fold after_cut slabs chunks) (class_of_page (fold after_cut slabs chunks) x.page) (per_pages-cuts slabs chunks)
    ∙ ap (λ (owners : List Owner). (class_at slabs (class_of_owner (owner_at owners x.page))).per_page) (owners-cuts slabs chunks)

-- one more chunk is cut
pub cuts_more : (slabs now : SlabState) (page index : ℕ) → now ≡ fold after_cut slabs (first_chunks page index)
    → after_cut now (chunk_at page index) ≡ fold after_cut slabs (first_chunks page (index + 1))
cuts_more slabs now page index so_far =
    ap (λ (s : SlabState). after_cut s (chunk_at page index)) so_far
    ∙ sym (ap (λ cs. fold after_cut slabs cs) (map-range_with_len_more (λ i. chunk_at page i) 0 index index (zero-add index))
    ∙ fold-append after_cut slabs (first_chunks page index) (chunk_at page index ∷ []))

-- and the next one is behind it
pub next_after_cut : (slabs now : SlabState) (page per_page index : ℕ) → now ≡ fold after_cut slabs (first_chunks page index)
    → (class_of_chunk slabs (chunk_at page 0)).per_page ≡ per_page
    → (after_cut now (chunk_at page index)).uncut ≡ next_cut page per_page (index + 1)
next_after_cut slabs now page per_page index so_far same =
    let kept : (class_of_chunk now (chunk_at page index)).per_page ≡ per_page
    = rw so_far (per_page-cuts slabs (first_chunks page index) (chunk_at page index) ∙ same) in
    rw kept refl
