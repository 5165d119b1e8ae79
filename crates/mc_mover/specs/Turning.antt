-- Turns of the mover: sections, one for each chunk that was looked at, and what comes at the page's end.
use Rattle.std.specs.Prelude.{◌≡◌, ◌⊎◌, ℕ, ◌+◌, ◌-◌, ◌<◌, ◌≤◌, ◌==◌, min, List, [], ◌∷◌, length, Some, None, if◌then◌else◌}
use Rattle.mc_pages.specs.declared.ids.Moving.{Moving}
use Rattle.mc_pages.specs.declared.moves.Found.{Found}
use Rattle.mc_pages.specs.declared.moves.Found.TheVariants.{Cleared, Rescued, Evicted, Busy, Locked, Already}
use Rattle.mc_pages.specs.Accounted.{first_chunks}
use Rattle.mc_pages.specs.Moves.{after_finish, after_passed, after_wrap, chunk_at_position}
use Rattle.mc_pages.specs.SlabState.{SlabState, class_at}
use Rattle.mc_core.specs.declared.event.Change.TheVariants as change
use Rattle.mc_core.specs.declared.event.Step.TheVariants as step
use Rattle.mc_words.specs.hand.View.{View}
use Rattle.mc_words.specs.page.Cuts.{CutsEach}
use Rattle.mc_words.specs.lock.Doing.{SlabsDoing}
use Rattle.mc_words.specs.rule.Happens.{Happens}
use Rattle.mc_words.specs.hand.Views.{slabs_changed}
use Rattle.mc_mover.specs.declared.counts.Counts.{Counts}
use Rattle.mc_mover.specs.declared.counts.Turn.{Turn}
use Rattle.mc_mover.specs.declared.counts.Turn.TheVariants.{Idle, Went, Finished}
use Rattle.mc_mover.specs.declared.sweep.Sweep.{Sweep}
use Rattle.mc_mover.specs.declared.sweep.Sweep.TheVariants.{Due}
use Rattle.mc_mover.specs.Visiting.{LacksCallToSave, Visits}

-- nothing was counted yet
abbrev pub no_counts : Counts
no_counts = record { cleared = 0; rescued = 0; evicted = 0; busy = 0; locked = 0 }

-- the counts after one more chunk was found; a rescued or evicted one counts as cleared, too
abbrev pub counts_with_found : Found → Counts → Counts
counts_with_found Cleared counts = record counts { cleared = counts.cleared + 1 }
counts_with_found Rescued counts = record counts { cleared = counts.cleared + 1; rescued = counts.rescued + 1 }
counts_with_found Evicted counts = record counts { cleared = counts.cleared + 1; evicted = counts.evicted + 1 }
counts_with_found Busy counts = record counts { busy = counts.busy + 1 }
counts_with_found Locked counts = record counts { locked = counts.locked + 1 }
counts_with_found Already counts = counts

-- each of the counts is below n
abbrev pub AreBelow : ℕ → Counts → Type 0
AreBelow most counts = (counts.cleared < most) × (counts.rescued < most) × (counts.evicted < most) × (counts.busy < most) × (counts.locked < most)

-- how many chunks were found of each kind, the first first
abbrev pub counts_with_all : List Found → Counts → Counts
counts_with_all [] counts = counts
counts_with_all (found ∷ more) counts = counts_with_all more (counts_with_found found counts)

-- one section of a turn: the chunk at the move's position was dealt with, and the position is one further; and whether the turn's sweep is
-- due or done, before and afterwards
pub record Section (number : ℕ) (sweep : Sweep) (found : Found) (next : Sweep) (view : View) (slabs : SlabState) (now : View) (left : SlabState) : Type 0 where
  pub move : Moving
  pub runs : slabs.moving ≡ Some move
  pub within : move.at < (class_at slabs move.src).per_page
  pub visited : View
  pub kept : SlabState
  pub visits : Visits number move.src (chunk_at_position move) sweep found next view slabs visited kept
  pub happens : Happens visited (change.Passed found ∷ []) step.MissSlabs now
  pub is : now ≡ slabs_changed kept (change.Passed found) (number + 1) visited
  pub left_is : left ≡ after_passed kept found

-- the sections found these, one after another, each with the sweep due or done as the section before left it
abbrev pub Sections : ℕ → Sweep → List Found → Sweep → SlabsDoing
Sections number sweep [] last view slabs now left = (now ≡ view) × (left ≡ slabs) × (last ≡ sweep)
Sections number sweep (found ∷ more) last view slabs now left =
    (next : View) × (between : SlabState) × (after : Sweep) × Section number sweep found after view slabs next between × Sections number after more last next between now left

-- the pass is at the page's end
abbrev pub IsAtEnd : SlabState → Moving → Type 0
IsAtEnd slabs move = (slabs.moving ≡ Some move) × (move.at ≡ (class_at slabs move.src).per_page)

-- the move isn't at the page's end, and goes on; or it is, and the pass begins anew, as something held the pass up
abbrev pub GoesOn : ℕ → SlabsDoing
GoesOn number view slabs now left =
    ((move : Moving) × (slabs.moving ≡ Some move) × (move.at < (class_at slabs move.src).per_page) × (now ≡ view) × (left ≡ slabs))
    ⊎ ((move : Moving) × IsAtEnd slabs move × (1 ≤ move.busy) × Happens view (change.Wrap ∷ []) step.MissSlabs now × (now ≡ slabs_changed slabs change.Wrap (number + 1) view) × (left ≡ after_wrap slabs))

-- nothing held the pass up: the move ended, and the page was cut for its class, if it has one
pub record Finishes (number : ℕ) (view : View) (slabs : SlabState) (now : View) (left : SlabState) : Type 0 where
  pub move : Moving
  pub at_end : IsAtEnd slabs move
  pub none : move.busy ≡ 0
  pub moved : View
  pub happens : Happens view (change.FinishMove ∷ []) step.MissSlabs moved
  pub is : moved ≡ slabs_changed slabs change.FinishMove (number + 1) view
  pub cuts : CutsEach (if move.dst == 0 then [] else first_chunks move.page (class_at slabs move.dst).per_page) moved (after_finish slabs slabs.moving) now left

-- what the end of a turn does, by the turn's answer
abbrev pub EndsTurn : ℕ → Counts → Turn → SlabsDoing
EndsTurn number counts Idle view slabs now left = ⊥
EndsTurn number counts (Went same) view slabs now left = (same ≡ counts) × GoesOn number view slabs now left
EndsTurn number counts (Finished same) view slabs now left = (same ≡ counts) × Finishes number view slabs now left

-- as many sections as a turn has were done from the move's position, and found these; the sweep is due at first
pub record LooksFrom (number : ℕ) (counts : Counts) (view : View) (slabs : SlabState) (now : View) (left : SlabState) : Type 0 where
  pub move : Moving
  pub runs : slabs.moving ≡ Some move
  pub found : List Found
  pub count : length found ≡ min view.setup.config.bulk ((class_at slabs move.src).per_page - move.at)
  pub counts_are : counts ≡ counts_with_all found no_counts
  pub last : Sweep
  pub sections : Sections number Due found last view slabs now left

-- as many sections as a turn has were done, and then this was done
pub record Looks (number : ℕ) (counts : Counts) (Ends : SlabsDoing) (view : View) (slabs : SlabState) (now : View) (left : SlabState) : Type 0 where
  pub looked : View
  pub kept : SlabState
  pub looks : LooksFrom number counts view slabs looked kept
  pub ends : Ends looked kept now left

-- a turn, by its answer
abbrev pub Turns : ℕ → Turn → SlabsDoing
Turns number Idle view slabs now left = (slabs.moving ≡ None) × (now ≡ view) × (left ≡ slabs)
Turns number (Went counts) view slabs now left = Looks number counts (GoesOn number) view slabs now left
Turns number (Finished counts) view slabs now left = Looks number counts (Finishes number) view slabs now left

-- fewer sections than a turn has were done from the move's position, with the sweep due at first. Then there was no memory for the next
-- chunk's item, and the chunk is as before
pub record TurnLacksMemory (number : ℕ) (view : View) (slabs : SlabState) (now : View) (left : SlabState) : Type 0 where
  pub first : Moving
  pub began : slabs.moving ≡ Some first
  pub found : List Found
  pub within_limit : length found < view.setup.config.bulk
  pub looked : View
  pub kept : SlabState
  pub last : Sweep
  pub sections : Sections number Due found last view slabs looked kept
  pub move : Moving
  pub runs : kept.moving ≡ Some move
  -- the move is further on the same page, by a chunk for each section
  pub further : (move.page ≡ first.page) × (move.src ≡ first.src) × (move.at ≡ first.at + length found)
  pub within : move.at < (class_at kept move.src).per_page
  pub lacks : LacksCallToSave (chunk_at_position move) looked kept now left
