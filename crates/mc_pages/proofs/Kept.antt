-- What the code keeps of all pages and chunks, after each change.
use Rattle.std.proofs.Common.{◌≡◌, ◌≢◌, ℕ, ◌+◌, ◌*◌, ◌<◌, ◌≤◌, true, length, Option, Some, None, if◌then◌else◌, refl, sym, ap, ◌∙◌, subst, arith, Contains, ne_eqb}
use Rattle.std.specs.Option.{option_map}
use Rattle.std.proofs.lemmas.Bool.{both_ways}
use Rattle.std.proofs.lemmas.Option.{same_Some, none-some}
use Rattle.mc_classes.specs.Limits.{most_arena_pages, most_page_chunks}
use Rattle.mc_pages.specs.declared.ids.ChunkId.{ChunkId}
use Rattle.mc_pages.specs.declared.ids.Moving.{Moving}
use Rattle.mc_pages.specs.declared.moves.Found.{Found}
use Rattle.mc_pages.specs.Ledger.{owner_at}
use Rattle.mc_pages.specs.ClassState.{ClassState, class_after_pop, put_back, class_after_touch, class_after_replacement, class_after_clear, class_after_eviction, with_cut}
use Rattle.mc_pages.specs.SlabState.{SlabState, HasClass, class_at, class_of_owner, class_of_page, class_of_chunk}
use Rattle.mc_pages.specs.Changes.{with_class, after_pop, after_back, after_touch, after_replace, after_clear, after_evicted, after_cut}
use Rattle.mc_pages.specs.Moves.{CanPass}
use Rattle.mc_pages.specs.Accounted.{is_moving, cut_count, uncut_count, places_in, IsAccounted}
use Rattle.mc_pages.specs.InOrder.{IsBeingCut, AreSlabsInOrder}
use Rattle.mc_pages.proofs.Chunks.{times_from_Contains}
use Rattle.mc_pages.proofs.HandedOut.{IsClass-handed_out}
use Rattle.mc_pages.proofs.Owners.{is_of_class-class_of_owner}
use Rattle.mc_pages.proofs.Redistributed.{Redistributes, Redistributes-popped, Redistributes-put_back, Redistributes-touched, Redistributes-replaced, Redistributes-evicted, IsAccounted-redistributed}
use Rattle.mc_pages.proofs.CutNext.{uncut_count-own, IsAccounted-after_cut}
use Rattle.mc_pages.proofs.ClearedChunk.{CanClear, IsAccounted-cleared}
use Rattle.mc_pages.proofs.Grace.{populated-same}
use Rattle.mc_pages.proofs.GrantedPage.{length-pages_le}
use Rattle.mc_pages.proofs.Steady.{IsSteady_from, IsSteady-changed, IsBeingCut-with_class, IsBeingCut-next, IsInOrder-with_class}
pub use Rattle.mc_pages.proofs.Fresh.{IsInOrder-fresh}
pub use Rattle.mc_pages.proofs.KeptPages.{IsInOrder-after_grant, IsInOrder-after_take}
pub use Rattle.mc_pages.proofs.KeptMoves.{IsInOrder-after_begin, IsInOrder-after_passed, IsInOrder-after_wrap, IsInOrder-automove, IsInOrder-after_trim, first_page_within}
pub use Rattle.mc_pages.proofs.KeptFinish.{IsInOrder-finished, release_fits}
pub use Rattle.mc_pages.proofs.HandedOut.{times_free_one, times_cleared_one, IsClass-placed}
pub use Rattle.mc_pages.proofs.Passes.{all_cleared_at_end}
pub use Rattle.mc_pages.proofs.Source.{source_is}

-- chunks change their list
IsInOrder-redistributed : (slabs : SlabState) (granted class : ℕ) (state : ClassState) → AreSlabsInOrder slabs granted → HasClass slabs class → Redistributes (class_at slabs class) state → AreSlabsInOrder (with_class slabs class state) granted
IsInOrder-redistributed slabs granted class state kept is change =
    IsInOrder-with_class slabs granted class state kept is change.per_page change.pages (IsAccounted-redistributed slabs class state kept.accounted is change)

-- a chunk is handed out
pub IsInOrder-after_pop : (slabs : SlabState) (granted class : ℕ) → AreSlabsInOrder slabs granted → HasClass slabs class → AreSlabsInOrder (after_pop slabs class) granted
IsInOrder-after_pop slabs granted class kept is =
    IsInOrder-redistributed slabs granted class (class_after_pop (class_at slabs class)) kept is (Redistributes-popped (class_at slabs class))

-- a chunk comes back
pub IsInOrder-after_back : (slabs : SlabState) (granted : ℕ) (chunk : ChunkId) → AreSlabsInOrder slabs granted → Contains (class_of_chunk slabs chunk).order chunk → AreSlabsInOrder (after_back slabs chunk) granted
IsInOrder-after_back slabs granted chunk kept handed =
    let own = class_of_chunk slabs chunk in
    IsInOrder-redistributed slabs granted (class_of_page slabs chunk.page) (put_back own chunk) kept
    (IsClass-handed_out slabs chunk kept.accounted handed)
    (Redistributes-put_back own chunk (times_from_Contains chunk own.order handed))

-- a chunk becomes the youngest
pub IsInOrder-after_touch : (slabs : SlabState) (granted : ℕ) (chunk : ChunkId) → AreSlabsInOrder slabs granted → Contains (class_of_chunk slabs chunk).order chunk → AreSlabsInOrder (after_touch slabs chunk) granted
IsInOrder-after_touch slabs granted chunk kept handed =
    let own = class_of_chunk slabs chunk in
    IsInOrder-redistributed slabs granted (class_of_page slabs chunk.page) (class_after_touch own chunk) kept
    (IsClass-handed_out slabs chunk kept.accounted handed)
    (Redistributes-touched own chunk (times_from_Contains chunk own.order handed))

-- a free chunk takes the place of a handed-out one
pub IsInOrder-after_replace : (slabs : SlabState) (granted : ℕ) (new old : ChunkId) → AreSlabsInOrder slabs granted → Contains (class_of_chunk slabs old).free new → Contains (class_of_chunk slabs old).order old → AreSlabsInOrder (after_replace slabs new old) granted
IsInOrder-after_replace slabs granted new old kept free handed =
    let own = class_of_chunk slabs old in
    IsInOrder-redistributed slabs granted (class_of_page slabs old.page) (class_after_replacement own new old) kept
    (IsClass-handed_out slabs old kept.accounted handed)
    (Redistributes-replaced own new old (times_from_Contains new own.free free) (times_from_Contains old own.order handed))

-- an eviction is counted
pub IsInOrder-after_evicted : (slabs : SlabState) (granted class : ℕ) → AreSlabsInOrder slabs granted → HasClass slabs class → AreSlabsInOrder (after_evicted slabs class) granted
IsInOrder-after_evicted slabs granted class kept is =
    IsInOrder-redistributed slabs granted class (class_after_eviction (class_at slabs class)) kept is (Redistributes-evicted (class_at slabs class))

-- the move that runs is one of this page
move_of_page : (moving : Option Moving) (page : ℕ) → option_map (λ move. move.page) moving ≡ Some page → (move : Moving) × (moving ≡ Some move) × (move.page ≡ page)
move_of_page None page h = absurd (none-some page h)
move_of_page (Some move) page h = (move, refl, same_Some move.page page h)

-- each chunk of a page on which none is to be cut next was cut
cut_count-whole : (uncut : Option ChunkId) (page per_page : ℕ) → ((next : ChunkId) → uncut ≡ Some next → next.page ≢ page) → cut_count uncut page per_page ≡ per_page
cut_count-whole None page per_page apart = refl
cut_count-whole (Some next) page per_page apart = ap (λ b. if b then next.index else per_page) (ne_eqb next.page page (apart next refl))

-- a chunk of the moving page leaves its list
pub IsInOrder-after_clear : (slabs : SlabState) (granted : ℕ) (chunk : ChunkId) → AreSlabsInOrder slabs granted → option_map (λ move. move.page) slabs.moving ≡ Some chunk.page → 1 ≤ places_in slabs (class_of_page slabs chunk.page) chunk → AreSlabsInOrder (after_clear slabs chunk) granted
IsInOrder-after_clear slabs granted chunk kept h placed =
    let found = move_of_page slabs.moving chunk.page h in
    let move : Moving = found.0 in
    let is = kept.accounted.move move found.1 in
    let own : class_of_page slabs chunk.page ≡ move.src = ap (λ (p : ℕ). class_of_page slabs p) (sym found.2) ∙ ap class_of_owner is.owner in
    let moves : is_moving (owner_at slabs.owners chunk.page) ≡ true = ap (λ (p : ℕ). is_moving (owner_at slabs.owners p)) (sym found.2) ∙ ap is_moving is.owner in
    let apart = λ (next : ChunkId) (e : slabs.uncut ≡ Some next) (same : next.page ≡ chunk.page). both_ways _ (kept.uncut next e).still (ap (λ (p : ℕ). is_moving (owner_at slabs.owners p)) same ∙ moves) in
    let can : CanClear slabs move chunk = record {
      runs = found.1;
      of = is;
      on = sym found.2;
      whole = cut_count-whole slabs.uncut chunk.page (class_at slabs move.src).per_page apart;
      placed = subst (λ (n : ℕ). 1 ≤ places_in slabs n chunk) own placed;
    } in
    let all = IsAccounted-cleared slabs move chunk kept.accounted can in
    subst (λ (n : ℕ). AreSlabsInOrder (with_class slabs n (class_after_clear (class_at slabs n) chunk)) granted) (sym own)
    (IsInOrder-with_class slabs granted move.src (class_after_clear (class_at slabs move.src) chunk) kept is.src refl refl all)

-- the lowest uncut chunk is cut
pub IsInOrder-after_cut : (slabs : SlabState) (granted : ℕ) (chunk : ChunkId) → AreSlabsInOrder slabs granted → slabs.uncut ≡ Some chunk → AreSlabsInOrder (after_cut slabs chunk) granted
IsInOrder-after_cut slabs granted chunk kept h =
    let on = kept.uncut chunk h in
    let own = class_of_page slabs chunk.page in
    let state : ClassState = with_cut (class_of_chunk slabs chunk) chunk in
    let steady = IsSteady-changed slabs own state slabs.owners (IsSteady_from slabs granted kept) on.owned refl refl in
    record {
      accounted = IsAccounted-after_cut slabs chunk kept.accounted h on;
      lowest = kept.lowest;
      graced = omega (arith, kept.graced, populated-same slabs own state on.owned refl);
      pages = kept.pages;
      per_page = steady.per_page;
      at_most = steady.at_most;
      uncut = λ next e.
          let there = IsBeingCut-with_class slabs own state next on.owned refl refl (IsBeingCut-next slabs chunk next on e) in
          record { owned = there.owned; still = there.still; within = there.within; newest = there.newest };
    }

-- there is room for the lowest uncut chunk
pub below_total : (slabs : SlabState) (chunk : ChunkId) → IsAccounted slabs → slabs.uncut ≡ Some chunk → IsBeingCut slabs chunk → length (class_of_chunk slabs chunk).free + length (class_of_chunk slabs chunk).order < length (class_of_chunk slabs chunk).pages * (class_of_chunk slabs chunk).per_page
below_total slabs chunk all h on =
    let own = class_of_page slabs chunk.page in
    let uncut = ap (λ (o : Option ChunkId). uncut_count slabs own o) h in
    let some = uncut_count-own slabs own chunk (is_of_class-class_of_owner own (owner_at slabs.owners chunk.page) on.owned.0 refl) in
    omega (arith, all.total own on.owned, uncut, some, on.within)

-- no class has more pages than there are
pub pages_below : (slabs : SlabState) (granted given : ℕ) → AreSlabsInOrder slabs granted → HasClass slabs given → length (class_at slabs given).pages ≤ most_arena_pages
pages_below slabs granted given kept is = omega (arith, length-pages_le slabs given kept.accounted is, kept.pages)

-- the position of a pass that isn't at its end, and what held it up, are below the most chunks of a page
pub position_below : (slabs : SlabState) (granted : ℕ) (found : Found) (move : Moving) → AreSlabsInOrder slabs granted → CanPass slabs found move → (move.at < most_page_chunks) × (move.busy < most_page_chunks)
position_below slabs granted found move kept can =
    let is = kept.accounted.move move can.runs in
    let most = kept.at_most move.src is.src in
    (omega (arith, can.within, most), omega (arith, can.within, most, is.busy))
