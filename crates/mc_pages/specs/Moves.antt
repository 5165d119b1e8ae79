-- What each step of a move changes, and when it may be made.
use Rattle.std.specs.Prelude.{◌≡◌, ℕ, ◌+◌, ◌<◌, ◌≤◌, ◌==◌, Bool, true, false, if◌then◌else◌, [], ◌∷◌, ◌++◌, slice_index_or, slice_set, Option, Some, None}
use Rattle.std.specs.Option.{option_map}
use Rattle.mc_pages.specs.declared.ids.ChunkId.{ChunkId}
use Rattle.mc_pages.specs.declared.ids.Moving.{Moving}
use Rattle.mc_pages.specs.declared.ledger.Owner.TheVariants.{Pool}
use Rattle.mc_pages.specs.declared.ledger.Owner.TheVariants as owner
use Rattle.mc_pages.specs.declared.ledger.Entry.TheVariants.{Began, Ended}
use Rattle.mc_pages.specs.declared.moves.Found.{Found}
use Rattle.mc_pages.specs.declared.moves.Found.TheVariants.{Rescued, Evicted, Busy, Locked}
use Rattle.mc_pages.specs.ClassState.{counter_after, without_page}
use Rattle.mc_pages.specs.SlabState.{SlabState, class_at}
use Rattle.mc_pages.specs.Changes.{with_class, with_given}
use Rattle.mc_pages.specs.Answer.{cursor_after}
use Rattle.mc_pages.specs.Accounted.{is_cleared}

-- the first page of a class
abbrev pub first_page : SlabState → ℕ → ℕ
first_page slabs class = slice_index_or (class_at slabs class).pages 0 0

-- the page begins to move; it stays in its class's page list
abbrev pub with_move : SlabState → ℕ → ℕ → ℕ → SlabState
with_move slabs page src dst = record slabs {
  owners = slice_set slabs.owners page (owner.Moving src dst);
  ledger = slabs.ledger ++ Began page src dst ∷ [];
  moving = Some (record { page = page; src = src; dst = dst; at = 0; busy = 0 });
}

-- the first page of the source begins to move
abbrev pub after_begin : SlabState → Option ℕ → ℕ → ℕ → SlabState
after_begin slabs src source dst = record (with_move slabs (first_page slabs source) source dst) { cursor = cursor_after slabs src source }

-- the page leaves its class and goes uncut into the pool
abbrev pub after_page_release : SlabState → ℕ → ℕ → SlabState
after_page_release slabs page src = record (with_class slabs src (without_page (class_at slabs src) page)) {
  owners = slice_set slabs.owners page Pool;
  pool = slabs.pool ++ page ∷ [];
  moving = None;
}

-- the moving page has come to its destination: it goes uncut into the pool, or joins a class and is to be cut
abbrev pub after_page_arrival : SlabState → Moving → SlabState
after_page_arrival slabs move =
    if move.dst == 0 then after_page_release slabs move.page move.src
    else record (with_given (after_page_release slabs move.page move.src) move.dst move.page) { pool = slabs.pool }

-- the move ends
abbrev pub after_move_end : SlabState → Moving → SlabState
after_move_end slabs move = record (after_page_arrival slabs move) { ledger = slabs.ledger ++ Ended move.page move.dst ∷ []; moved = counter_after slabs.moved 1 }

-- the move that runs ends
abbrev pub after_finish : SlabState → Option Moving → SlabState
after_finish slabs None = slabs
after_finish slabs (Some move) = after_move_end slabs move

-- what was found holds up the move
abbrev pub is_held_up : Found → Bool
is_held_up Busy = true
is_held_up Locked = true
is_held_up found = false

-- 1 for an item that was taken to another chunk
abbrev pub rescued_of : Found → ℕ
rescued_of Rescued = 1
rescued_of found = 0

-- 1 for an item that was evicted as there was no other chunk
abbrev pub evicted_of : Found → ℕ
evicted_of Evicted = 1
evicted_of found = 0

-- the position is one further; a chunk that holds up the move is counted
abbrev pub moved_on : Moving → Found → Moving
moved_on move found = record move { at = move.at + 1; busy = move.busy + (if is_held_up found then 1 else 0) }

-- the chunk at the position was dealt with
abbrev pub after_passed : SlabState → Found → SlabState
after_passed slabs found = record slabs {
  moving = option_map (λ move. moved_on move found) slabs.moving;
  rescues = counter_after slabs.rescues (rescued_of found);
  evictions_nomem = counter_after slabs.evictions_nomem (evicted_of found);
}

-- the pass begins anew, as busy chunks were left
abbrev pub begun_anew : Moving → Moving
begun_anew move = record move { at = 0; busy = 0 }

-- the chunks that held up this pass, or none where no page moves
abbrev pub busy_of : Option Moving → ℕ
busy_of None = 0
busy_of (Some move) = move.busy

-- the pass begins anew, and what held it up is counted
abbrev pub after_wrap : SlabState → SlabState
after_wrap slabs = record slabs { moving = option_map begun_anew slabs.moving; busy = counter_after slabs.busy (busy_of slabs.moving) }

-- the chunk at the position of a move that runs
abbrev pub chunk_at_position : Moving → ChunkId
chunk_at_position move = record { page = move.page; index = move.at }

-- the chunk at the position may be passed: the move isn't at the page's end, and the chunk is cleared, or holds up the move
pub record CanPass (slabs : SlabState) (found : Found) (move : Moving) : Type 0 where
  pub runs : slabs.moving ≡ Some move
  pub within : move.at < (class_at slabs move.src).per_page
  pub done : is_held_up found ≡ false → is_cleared slabs move.src (chunk_at_position move) ≡ true

-- the pass is at the page's end, and something held it up
pub record CanWrap (slabs : SlabState) (move : Moving) : Type 0 where
  pub runs : slabs.moving ≡ Some move
  pub at_end : move.at ≡ (class_at slabs move.src).per_page
  pub held_up : 1 ≤ move.busy

-- each chunk of the moving page is cleared
pub record CanFinish (slabs : SlabState) (move : Moving) : Type 0 where
  pub runs : slabs.moving ≡ Some move
  pub all_cleared : (index : ℕ) → index < (class_at slabs move.src).per_page → is_cleared slabs move.src (record { page = move.page; index = index }) ≡ true
