-- What a turn clears is held by nobody: in the moment before the item is taken away, and in the one before the chunk is cleared.
use Rattle.std.specs.Prelude.{◌≡◌, ℕ, false, []}
use Rattle.mc_pages.specs.declared.ids.ChunkId.{ChunkId}
use Rattle.mc_pages.specs.declared.moves.Found.{Found}
use Rattle.mc_pages.specs.declared.moves.Found.TheVariants.{Cleared, Rescued, Evicted, Busy}
use Rattle.mc_pages.specs.Moves.{chunk_at_position}
use Rattle.mc_pages.specs.SlabState.{SlabState}
use Rattle.mc_core.specs.declared.event.Step.{Step}
use Rattle.mc_core.specs.declared.event.Step.TheVariants as step
use Rattle.mc_core.specs.declared.head.Head.{Head}
use Rattle.mc_core.specs.model.Columns.{holder_count}
use Rattle.mc_core.specs.model.Head.{is_out}
use Rattle.mc_words.specs.hand.View.{View}
use Rattle.mc_words.specs.rule.Happens.{Happens}
use Rattle.mc_words.specs.hand.Views.{head_seen}
use Rattle.mc_mover.specs.declared.sweep.Sweep.{Sweep}
use Rattle.mc_mover.specs.Turning.{Section}
use Rattle.mc_mover.specs.Visiting.{Visits}

-- in the lawful moment in which this step was made no hand had a holding of the chunk
abbrev pub IsUnheldAt : (chunk : ChunkId) (view : View) (step : Step) (now : View) → Happens view [] step now → Type 0
IsUnheldAt chunk view step now happens = holder_count chunk happens.was.moment.state.holdings ≡ 0

-- no hand held the chunk in the lawful moment in which it was cleared, nor when its item was taken away before
abbrev pub NobodyHolds : (number class : ℕ) (chunk : ChunkId) (sweep : Sweep) (found : Found) (next : Sweep) (view : View) (slabs : SlabState) (now : View) (left : SlabState) →
    Visits number class chunk sweep found next view slabs now left → Type 0
NobodyHolds number class chunk sweep Cleared next view slabs now left visits = IsUnheldAt chunk _ _ _ visits.0.clears.happens
NobodyHolds number class chunk sweep Rescued next view slabs now left visits =
    IsUnheldAt chunk _ _ _ visits.does.1.reaches.does.does.does.moves.condemns.happens × IsUnheldAt chunk _ _ _ visits.does.1.clears.happens
NobodyHolds number class chunk sweep Evicted next view slabs now left visits =
    IsUnheldAt chunk _ _ _ visits.does.1.reaches.does.does.does.condemns.happens × IsUnheldAt chunk _ _ _ visits.does.1.clears.happens
NobodyHolds number class chunk sweep found next view slabs now left visits = Unit {0}

-- whatever a section found, no hand held its chunk in the moment in which it was cleared, nor when its item was taken away before
abbrev pub ClearsUnheld : Type 0
ClearsUnheld = (number : ℕ) (sweep : Sweep) (found : Found) (next : Sweep) (view : View) (slabs : SlabState) (now : View) (left : SlabState) →
    (section : Section number sweep found next view slabs now left) →
    NobodyHolds number section.move.src (chunk_at_position section.move) sweep found next view slabs section.visited section.kept section.visits

-- the chunk's header was seen first, and it isn't that of a cleared chunk
abbrev pub SeesUncleared : ChunkId → View → Type 0
SeesUncleared chunk view = (head : Head) × Happens view [] (step.Head chunk) (head_seen chunk head view) × (is_out head.tag ≡ false)

-- the header of each chunk that counts as busy was seen first, and isn't that of a cleared chunk
abbrev pub BusyIsUncleared : Type 0
BusyIsUncleared = (number : ℕ) (sweep next : Sweep) (view : View) (slabs : SlabState) (now : View) (left : SlabState) →
    (section : Section number sweep Busy next view slabs now left) → SeesUncleared (chunk_at_position section.move) view
