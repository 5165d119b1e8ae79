-- A move goes on, or its pass begins anew: all stays accounted for.
use Rattle.std.proofs.Common.{◌≡◌, ℕ, ◌+◌, ◌≤◌, not, count_by, Option, Some, if◌then◌else◌, sym, ap, ◌∙◌, subst, inl, inr, arith, le_refl}
use Rattle.std.specs.Option.{option_map}
use Rattle.std.proofs.lemmas.Bool.{cases_Bool, not-false}
use Rattle.std.proofs.lemmas.Option.{same_Some}
use Rattle.mc_pages.specs.declared.ids.ChunkId.{ChunkId}
use Rattle.mc_pages.specs.declared.ids.Moving.{Moving}
use Rattle.mc_pages.specs.declared.moves.Found.{Found}
use Rattle.mc_pages.specs.SlabState.{SlabState, class_at}
use Rattle.mc_pages.specs.Moves.{is_held_up, moved_on, begun_anew, chunk_at_position, CanPass, CanFinish}
use Rattle.mc_pages.specs.Accounted.{truth, is_cleared, first_chunks, cleared_count, left_behind, IsMove, IsAccounted}
use Rattle.mc_pages.proofs.Cleared.{truth-le_one}
use Rattle.mc_pages.proofs.FirstChunks.{count_by-first_more, first_fails}

-- the move of the same page is at another position
pub IsAccounted-moved : (slabs : SlabState) (move next : Moving) (moving : Option Moving) → IsAccounted slabs → slabs.moving ≡ Some move → moving ≡ Some next → next.page ≡ move.page → IsMove slabs next → IsAccounted (record slabs { moving = moving })
IsAccounted-moved slabs move next moving all runs now same is =
    let new : SlabState = record slabs { moving = moving } in
    let page = λ (o : Option Moving). option_map (λ (m : Moving). m.page) o in
    let is_new : IsMove new next = record { owner = is.owner; src = is.src; spare = is.spare; dst = is.dst; apart = is.apart; within = is.within; busy = is.busy; passed = is.passed } in
    record {
      replays = all.replays;
      pages = all.pages;
      owned = all.owned;
      pool = all.pool;
      one_move = λ other h. ap page now ∙ (ap (λ (p : ℕ). Some p) same ∙ (sym (ap page runs) ∙ all.one_move other h));
      move = λ other h. subst (λ (m : Moving). IsMove new m) (same_Some next other (sym now ∙ h)) is_new;
      limit = all.limit;
      grace = all.grace;
      chunks = all.chunks;
      total = λ class here.
          let after = ap (λ (o : Option Moving). cleared_count slabs class o) now in
          let before = ap (λ (o : Option Moving). cleared_count slabs class o) runs in
          let pages = ap (λ (p : ℕ). count_by (is_cleared slabs class) (first_chunks p (class_at slabs class).per_page)) same in
          omega (arith, after, before, pages, all.total class here);
      cursor = all.cursor;
      mode = all.mode;
    }

-- how many more chunks hold up the move, and how many more are left behind
left_behind-passed : (slabs : SlabState) (found : Found) (move : Moving) → CanPass slabs found move → left_behind slabs (moved_on move found) + move.busy ≤ left_behind slabs move + (moved_on move found).busy
left_behind-passed slabs found move can =
    let left = λ (c : ChunkId). not (is_cleared slabs move.src c) in
    let more = count_by-first_more left move.page move.at in
    elim (cases_Bool (is_held_up found)) [
      | inl held ↦
          let busy = ap (λ b. move.busy + (if b then 1 else 0)) held in
          omega (arith, more, busy, truth-le_one (left (chunk_at_position move)))
      | inr passes ↦
          let busy = ap (λ b. move.busy + (if b then 1 else 0)) passes in
          let none = ap (λ b. truth (not b)) (can.done passes) in
          omega (arith, more, busy, none)
    ]

-- the chunk at the position is passed
pub IsMove-passed : (slabs : SlabState) (found : Found) (move : Moving) → IsMove slabs move → CanPass slabs found move → IsMove slabs (moved_on move found)
IsMove-passed slabs found move is can =
    let more : (moved_on move found).busy ≤ move.busy + 1 =
    elim (cases_Bool (is_held_up found)) [
      | inl held ↦ omega (arith, ap (λ b. move.busy + (if b then 1 else 0)) held)
      | inr passes ↦ omega (arith, ap (λ b. move.busy + (if b then 1 else 0)) passes)
    ] in
    record {
      owner = is.owner;
      src = is.src;
      spare = is.spare;
      dst = is.dst;
      apart = is.apart;
      within = omega (arith, can.within);
      busy = omega (arith, more, is.busy);
      passed = omega (arith, left_behind-passed slabs found move can, is.passed);
    }

-- the pass begins anew
pub IsMove-anew : (slabs : SlabState) (move : Moving) → IsMove slabs move → IsMove slabs (begun_anew move)
IsMove-anew slabs move is =
    record { owner = is.owner; src = is.src; spare = is.spare; dst = is.dst; apart = is.apart; within = omega arith; busy = le_refl 0; passed = le_refl 0 }

-- at the page's end each chunk is cleared where none held up the move
pub all_cleared_at_end : (slabs : SlabState) (move : Moving) → IsAccounted slabs → slabs.moving ≡ Some move → move.at ≡ (class_at slabs move.src).per_page → move.busy ≡ 0 → CanFinish slabs move
all_cleared_at_end slabs move all runs at_end free =
    let is = all.move move runs in
    let none : left_behind slabs move ≡ 0 = omega (arith, is.passed, free) in
    record {
      runs = runs;
      all_cleared = λ index h. not-false _ (first_fails (λ c. not (is_cleared slabs move.src c)) move.page move.at none index (omega (arith, h, at_end)));
    }
