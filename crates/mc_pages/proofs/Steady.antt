-- What is kept beside the accounts: pages, chunks a page, and the chunk that is cut next.
use Rattle.std.proofs.Common.{◌≡◌, ℕ, ◌+◌, ◌-◌, ◌<◌, ◌≤◌, nat_lt, List, [], ◌∷◌, ◌++◌, length, slice_get, Some, refl, sym, ap, ◌∙◌, subst, inl, inr, arith, length-set}
use Rattle.std.proofs.lemmas.Bool.{cases_lt}
use Rattle.std.proofs.lemmas.Option.{same_Some, none-some, slice_get-get_or}
use Rattle.std.proofs.lemmas.List.{get_or_push, length_push}
use Rattle.mc_classes.specs.Limits.{most_arena_pages, most_page_chunks}
use Rattle.mc_pages.specs.declared.ids.ChunkId.{ChunkId}
use Rattle.mc_pages.specs.declared.ledger.Entry.{Entry}
use Rattle.mc_pages.specs.declared.ledger.Owner.{Owner}
use Rattle.mc_pages.specs.declared.ledger.Owner.TheVariants.{Class}
use Rattle.mc_pages.specs.ClassState.{ClassState, with_page}
use Rattle.mc_pages.specs.SlabState.{SlabState, HasClass, class_at, class_of_owner, class_of_page, class_of_chunk}
use Rattle.mc_pages.specs.Changes.{with_class, with_given, next_uncut}
use Rattle.mc_pages.specs.Accounted.{is_moving, IsAccounted}
use Rattle.mc_pages.specs.Ledger.{ordinary_count}
use Rattle.mc_pages.specs.InOrder.{AreGranted, IsBeingCut, AreSlabsInOrder, populated_count}
use Rattle.mc_pages.proofs.Grace.{populated-same}
use Rattle.mc_pages.proofs.Owners.{owner_at-set_same}
use Rattle.mc_pages.proofs.OneClass.{length-with_class, class_at-with_class_same, class_at-with_class_kept}
use Rattle.mc_pages.proofs.Redistributed.{IsClass-before}
use Rattle.mc_pages.proofs.FirstChunks.{chunk_of}
use Rattle.mc_pages.proofs.CutNext.{next_uncut-last, next_uncut-more}

-- what no change of one class changes
pub record IsSteady (slabs : SlabState) : Type 0 where
  pub pages : length slabs.owners ≤ most_arena_pages
  pub per_page : (class : ℕ) → HasClass slabs class → 1 ≤ (class_at slabs class).per_page
  pub at_most : (class : ℕ) → HasClass slabs class → (class_at slabs class).per_page ≤ most_page_chunks

-- a whole in order has it
pub IsSteady_from : (slabs : SlabState) (granted : ℕ) → AreSlabsInOrder slabs granted → IsSteady slabs
IsSteady_from slabs granted kept = record { pages = kept.pages; per_page = kept.per_page; at_most = kept.at_most }

-- so has one of which a class and owners have changed
pub IsSteady-changed : (slabs : SlabState) (class : ℕ) (state : ClassState) (owners : List Owner) → IsSteady slabs → HasClass slabs class → state.per_page ≡ (class_at slabs class).per_page → length owners ≡ length slabs.owners → IsSteady (record (with_class slabs class state) { owners = owners })
IsSteady-changed slabs class state owners steady is size same =
    record {
      pages = omega (arith, steady.pages, same);
      per_page = λ other here.
          let before = IsClass-before slabs class other state here in
          let kept = class_at-with_class_kept (λ c. c.per_page) slabs class other state is before.0 size in
          omega (arith, kept, steady.per_page other before);
      at_most = λ other here.
          let before = IsClass-before slabs class other state here in
          let kept = class_at-with_class_kept (λ c. c.per_page) slabs class other state is before.0 size in
          omega (arith, kept, steady.at_most other before);
    }

-- a change in one class that leaves its pages leaves the chunk that is cut next
pub IsBeingCut-with_class : (slabs : SlabState) (class : ℕ) (state : ClassState) (chunk : ChunkId) → HasClass slabs class → state.per_page ≡ (class_at slabs class).per_page → state.pages ≡ (class_at slabs class).pages → IsBeingCut slabs chunk → IsBeingCut (with_class slabs class state) chunk
IsBeingCut-with_class slabs class state chunk is size pages on =
    let own = class_of_page slabs chunk.page in
    let kept = class_at-with_class_kept (λ c. c.per_page) slabs class own state is on.owned.0 size in
    let last = λ (ps : List ℕ). slice_get ps (length ps - 1) in
    record {
      owned = (on.owned.0, omega (arith, on.owned.1, length-with_class slabs class state));
      still = on.still;
      within = omega (arith, on.within, kept);
      newest = class_at-with_class_kept (λ c. last c.pages) slabs class own state is on.owned.0 (ap last pages) ∙ on.newest;
    }

-- a change in one class that leaves its pages keeps all in order that stays accounted for
pub IsInOrder-with_class : (slabs : SlabState) (granted class : ℕ) (state : ClassState) → AreSlabsInOrder slabs granted → HasClass slabs class → state.per_page ≡ (class_at slabs class).per_page → state.pages ≡ (class_at slabs class).pages → IsAccounted (with_class slabs class state) → AreSlabsInOrder (with_class slabs class state) granted
IsInOrder-with_class slabs granted class state kept is size pages all =
    let steady = IsSteady-changed slabs class state slabs.owners (IsSteady_from slabs granted kept) is size refl in
    record {
      accounted = all;
      lowest = kept.lowest;
      graced = omega (arith, kept.graced, populated-same slabs class state is (ap (λ (ps : List ℕ). nat_lt 0 (length ps)) pages));
      pages = kept.pages;
      per_page = steady.per_page;
      at_most = steady.at_most;
      uncut = λ chunk h. IsBeingCut-with_class slabs class state chunk is size pages (kept.uncut chunk h);
    }

-- the chunk behind the one that is cut is cut next
pub IsBeingCut-next : (slabs : SlabState) (chunk next : ChunkId) → IsBeingCut slabs chunk → next_uncut (class_of_chunk slabs chunk).per_page chunk ≡ Some next → IsBeingCut slabs next
IsBeingCut-next slabs chunk next on h =
    let size = (class_of_chunk slabs chunk).per_page in
    elim (cases_lt (chunk.index + 1) size) [
      | inl more ↦
          let behind : ChunkId = chunk_of chunk.page (chunk.index + 1) in
          let is : behind ≡ next = same_Some behind next (sym (next_uncut-more size chunk more) ∙ h) in
          subst (λ (c : ChunkId). IsBeingCut slabs c) is (record { owned = on.owned; still = on.still; within = more; newest = on.newest })
      | inr last ↦ absurd (none-some next (sym (next_uncut-last size chunk last) ∙ h))
    ]

-- the page that joins a list comes last in it
last_pushed : (pages : List ℕ) (page : ℕ) → slice_get (pages ++ page ∷ []) (length (pages ++ page ∷ []) - 1) ≡ Some page
last_pushed pages page =
    let long = length_push pages page in
    let place : length (pages ++ page ∷ []) - 1 ≡ length pages = omega (arith, long) in
    ap (λ (n : ℕ). slice_get (pages ++ page ∷ []) n) place
    ∙ (slice_get-get_or (pages ++ page ∷ []) (length pages) 0 (omega (arith, long)) ∙ ap (λ (p : ℕ). Some p) (get_or_push pages page 0 (length pages) refl))

-- the first chunk of the page that a class was given is cut next
IsBeingCut-given : (slabs : SlabState) (given page : ℕ) → HasClass slabs given → page < length slabs.owners → 1 ≤ (class_at slabs given).per_page → IsBeingCut (with_given slabs given page) (chunk_of page 0)
IsBeingCut-given slabs given page is within some =
    let new : SlabState = with_given slabs given page in
    let state = with_page (class_at slabs given) page in
    let last = λ (ps : List ℕ). slice_get ps (length ps - 1) in
    let owner = owner_at-set_same slabs.owners page (Class given) within in
    let own : class_of_page new page ≡ given = ap class_of_owner owner in
    let here = class_at-with_class_same slabs given state is in
    let there : class_at new (class_of_page new page) ≡ state = ap (λ (n : ℕ). class_at new n) own ∙ here in
    record {
      owned = (omega (arith, own, is.0), omega (arith, own, is.1, length-with_class slabs given state));
      still = ap is_moving owner;
      within = omega (arith, ap (λ (c : ClassState). c.per_page) there, some);
      newest = ap (λ (c : ClassState). last c.pages) there ∙ last_pushed (class_at slabs given).pages page;
    }

-- a page is given to a class, and all stays accounted for and granted as it should
pub IsInOrder-given : (slabs : SlabState) (granted given page moved : ℕ) (pool : List ℕ) (ledger : List Entry) → IsSteady slabs → HasClass slabs given → page < length slabs.owners → IsAccounted (record (with_given slabs given page) { pool = pool; ledger = ledger; moved = moved }) → AreGranted (with_given slabs given page).owners granted → granted ≤ ordinary_count ledger + populated_count (with_given slabs given page).classes → AreSlabsInOrder (record (with_given slabs given page) { pool = pool; ledger = ledger; moved = moved }) granted
IsInOrder-given slabs granted given page moved pool ledger steady is within all are within_limit =
    let new : SlabState = record (with_given slabs given page) { pool = pool; ledger = ledger; moved = moved } in
    let state = with_page (class_at slabs given) page in
    let after = IsSteady-changed slabs given state (with_given slabs given page).owners steady is refl (length-set slabs.owners page (Class given)) in
    let on = IsBeingCut-given slabs given page is within (steady.per_page given is) in
    let first : IsBeingCut new (chunk_of page 0) = record { owned = on.owned; still = on.still; within = on.within; newest = on.newest } in
    record {
      accounted = all;
      lowest = are;
      graced = within_limit;
      pages = after.pages;
      per_page = after.per_page;
      at_most = after.at_most;
      uncut = λ chunk h. subst (λ (c : ChunkId). IsBeingCut new c) (same_Some (chunk_of page 0) chunk h) first;
    }
