-- What is said of pages and chunks beside the ledger and the limit, and both with one more entry.
use Rattle.std.proofs.Common.{◌≡◌, ℕ, ◌+◌, ◌*◌, ◌/◌, ◌<◌, ◌≤◌, ◌==◌, true, IsTrue, [], ◌∷◌, ◌++◌, length, set, count_by, Some, ap, ◌∙◌}
use Rattle.std.specs.Option.{option_map}
use Rattle.mc_pages.specs.declared.ids.ChunkId.{ChunkId}
use Rattle.mc_pages.specs.declared.ids.Moving.{Moving}
use Rattle.mc_pages.specs.declared.ledger.Owner.{Owner}
use Rattle.mc_pages.specs.declared.ledger.Entry.{Entry}
use Rattle.mc_pages.specs.Ledger.{KeepsGrace, all_untouched, is_ordinary, owner_at, page_of, fits_owner, owner_after, replay}
use Rattle.mc_pages.specs.SlabState.{SlabState, HasClass, class_at}
use Rattle.mc_pages.specs.Accounted.{truth, is_of_class, is_pool, is_moving, uncut_count, is_cut, places_in, is_cleared, cleared_count, IsMove, IsAccounted}
use Rattle.mc_pages.specs.Changes.{has_ordinary_page}
use Rattle.mc_pages.proofs.Grace.{limit-entry}
use Rattle.mc_pages.proofs.Replays.{replay-push}

-- what `IsAccounted` says beside the ledger, the limit, the cursor and the mode
pub record ArePlaced (slabs : SlabState) : Type 0 where
  pub pages : (class page : ℕ) → HasClass slabs class → count_by (λ p. p == page) (class_at slabs class).pages ≡ truth (is_of_class class (owner_at slabs.owners page))
  pub owned : (class page : ℕ) → IsTrue (is_of_class class (owner_at slabs.owners page)) → HasClass slabs class
  pub pool : (page : ℕ) → count_by (λ p. p == page) slabs.pool ≡ truth (is_pool (owner_at slabs.owners page))
  pub one_move : (page : ℕ) → IsTrue (is_moving (owner_at slabs.owners page)) → option_map (λ move. move.page) slabs.moving ≡ Some page
  pub move : (move : Moving) → slabs.moving ≡ Some move → IsMove slabs move
  pub chunks : (class : ℕ) (chunk : ChunkId) → HasClass slabs class → places_in slabs class chunk + truth (is_cleared slabs class chunk) ≡ truth (is_cut slabs class chunk)
  pub total : (class : ℕ) → HasClass slabs class → length (class_at slabs class).free + length (class_at slabs class).order + uncut_count slabs class slabs.uncut + cleared_count slabs class slabs.moving ≡ length (class_at slabs class).pages * (class_at slabs class).per_page

-- pages and chunks that are accounted for have their places
pub ArePlaced_from : (slabs : SlabState) → IsAccounted slabs → ArePlaced slabs
ArePlaced_from slabs all = record { pages = all.pages; owned = all.owned; pool = all.pool; one_move = all.one_move; move = all.move; chunks = all.chunks; total = all.total }

-- the counters have no part in it, and cursor and mode none but their own
pub IsAccounted-numbers : (slabs : SlabState) (cursor moved rescues evictions_nomem busy automove : ℕ) → IsAccounted slabs → HasClass slabs cursor → automove ≤ 2 → IsAccounted (record slabs { cursor = cursor; moved = moved; rescues = rescues; evictions_nomem = evictions_nomem; busy = busy; automove = automove })
IsAccounted-numbers slabs cursor moved rescues evictions_nomem busy automove all at mode =
    record {
      replays = all.replays;
      pages = all.pages;
      owned = all.owned;
      pool = all.pool;
      one_move = all.one_move;
      move = λ move h.
          let is = all.move move h in
          record { owner = is.owner; src = is.src; spare = is.spare; dst = is.dst; apart = is.apart; within = is.within; busy = is.busy; passed = is.passed };
      limit = all.limit;
      grace = all.grace;
      chunks = all.chunks;
      total = all.total;
      cursor = at;
      mode = mode;
    }

-- nor has how many entries are recorded
pub IsAccounted-trimmed : (slabs : SlabState) (trimmed : ℕ) → IsAccounted slabs → IsAccounted (record slabs { trimmed = trimmed })
IsAccounted-trimmed slabs trimmed all =
    record {
      replays = all.replays;
      pages = all.pages;
      owned = all.owned;
      pool = all.pool;
      one_move = all.one_move;
      move = λ move h.
          let is = all.move move h in
          record { owner = is.owner; src = is.src; spare = is.spare; dst = is.dst; apart = is.apart; within = is.within; busy = is.busy; passed = is.passed };
      limit = all.limit;
      grace = all.grace;
      chunks = all.chunks;
      total = all.total;
      cursor = all.cursor;
      mode = all.mode;
    }

-- one more entry, which fits the owner that it finds, accounts for the owner that it leaves
pub IsAccounted-entry : (slabs new : SlabState) (entry : Entry) (owner : Owner) → IsAccounted slabs → page_of entry < length slabs.owners → fits_owner entry (owner_at slabs.owners (page_of entry)) ≡ true → owner_after entry ≡ owner → ArePlaced (record new { owners = set slabs.owners (page_of entry) owner }) → HasClass new new.cursor → new.automove ≤ 2 → (is_ordinary entry ≡ true → has_ordinary_page slabs ≡ true) → KeepsGrace (set slabs.owners (page_of entry) owner) (slabs.ledger ++ entry ∷ []) → length new.classes ≡ length slabs.classes → IsAccounted (record new { page = slabs.page; limit = slabs.limit; owners = set slabs.owners (page_of entry) owner; ledger = slabs.ledger ++ entry ∷ [] })
IsAccounted-entry slabs new entry owner all within fit leaves placed at mode left_over grace same =
    let left = ap (λ (o : Owner). Some (set slabs.owners (page_of entry) o)) leaves in
    let start = ap (λ (n : ℕ). replay (all_untouched (slabs.limit / slabs.page + n)) (slabs.ledger ++ entry ∷ [])) same in
    record {
      replays = start ∙ (replay-push _ slabs.owners slabs.ledger entry all.replays within fit ∙ left);
      pages = placed.pages;
      owned = placed.owned;
      pool = placed.pool;
      one_move = placed.one_move;
      move = λ move h.
          let is = placed.move move h in
          record { owner = is.owner; src = is.src; spare = is.spare; dst = is.dst; apart = is.apart; within = is.within; busy = is.busy; passed = is.passed };
      limit = limit-entry slabs entry all left_over;
      grace = grace;
      chunks = placed.chunks;
      total = placed.total;
      cursor = at;
      mode = mode;
    }
