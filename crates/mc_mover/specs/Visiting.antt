-- A chunk of the moving page: what the mover sees there, and what it does.
use Rattle.std.specs.Prelude.{◌≡◌, ◌⊎◌, ℕ, Bool, true, false, not, ◌&&◌, [], Some}
use Rattle.mc_pages.specs.declared.ids.ChunkId.{ChunkId}
use Rattle.mc_pages.specs.declared.moves.Found.{Found}
use Rattle.mc_pages.specs.declared.moves.Found.TheVariants.{Cleared, Rescued, Evicted, Busy, Locked, Already}
use Rattle.mc_pages.specs.Changes.{after_clear}
use Rattle.mc_pages.specs.SlabState.{SlabState}
use Rattle.mc_core.specs.declared.head.Head.{Head}
use Rattle.mc_core.specs.declared.event.Step.TheVariants as step
use Rattle.mc_core.specs.run.Evictions.{is_linked_unheld}
use Rattle.mc_core.specs.model.Head.{is_linked, is_out}
use Rattle.mc_words.specs.hand.View.{View}
use Rattle.mc_words.specs.lock.Doing.{SlabsDoing}
use Rattle.mc_words.specs.rule.Happens.{Happens}
use Rattle.mc_words.specs.page.Owner.{Clears, SeesOther, is_unused}
use Rattle.mc_words.specs.hand.Views.{head_seen}
use Rattle.mc_mover.specs.declared.sweep.Sweep.{Sweep}
use Rattle.mc_mover.specs.Linked as linked
use Rattle.mc_mover.specs.Linked.{VisitsLinked}

-- the hand saw the chunk's header, and the property holds of the header
pub record SeesHead (chunk : ChunkId) (is_so : Head → Bool) (view now : View) : Type 0 where
  pub head : Head
  pub so : is_so head ≡ true
  pub looks : Happens view [] (step.Head chunk) now
  pub is : now ≡ head_seen chunk head view

-- the chunk was cleared before
abbrev pub SeesCleared : ChunkId → View → View → Type 0
SeesCleared chunk view now = SeesHead chunk (λ head. is_out head.tag) view now

-- the chunk was seen unlinked or free
abbrev pub SeesUnlinked : ChunkId → View → View → Type 0
SeesUnlinked chunk view now = SeesHead chunk (λ head. not (is_linked head.tag) && not (is_out head.tag)) view now

-- the chunk was seen unlinked or free, and as nobody holds it, it was cleared
pub record ClearsUnused (chunk : ChunkId) (view : View) (slabs : SlabState) (now : View) (left : SlabState) : Type 0 where
  pub seen : View
  pub sees : SeesUnlinked chunk view seen
  pub clears : Clears seen slabs chunk now
  pub left_is : left ≡ after_clear slabs chunk

-- the chunk was seen unlinked or free, but somebody holds it
pub record FindsUnlinkedHeld (chunk : ChunkId) (view now : View) : Type 0 where
  pub seen : View
  pub sees : SeesUnlinked chunk view seen
  pub other : SeesOther seen (Some chunk) (λ head. is_unused head ≡ false) now

-- the chunk was seen linked, held by nobody or by somebody, and then this was done
pub record SeesLinked (chunk : ChunkId) (Does : Bool → SlabsDoing) (view : View) (slabs : SlabState) (now : View) (left : SlabState) : Type 0 where
  pub head : Head
  pub linked : is_linked head.tag ≡ true
  pub looks : Happens view [] (step.Head chunk) (head_seen chunk head view)
  pub does : Does (is_linked_unheld head) (head_seen chunk head view) slabs now left

-- what was seen and done, by what was found; and whether the turn's sweep is due or done, before and afterwards, which only a linked chunk changes
abbrev pub Visits : ℕ → ℕ → ChunkId → Sweep → Found → Sweep → SlabsDoing
Visits number class chunk sweep Already next view slabs now left = SeesCleared chunk view now × (left ≡ slabs) × (next ≡ sweep)
Visits number class chunk sweep Cleared next view slabs now left = ClearsUnused chunk view slabs now left × (next ≡ sweep)
Visits number class chunk sweep Rescued next view slabs now left = SeesLinked chunk (λ unheld. VisitsLinked number class chunk sweep unheld Rescued next) view slabs now left
Visits number class chunk sweep Evicted next view slabs now left = SeesLinked chunk (λ unheld. VisitsLinked number class chunk sweep unheld Evicted next) view slabs now left
Visits number class chunk sweep Busy next view slabs now left =
    (FindsUnlinkedHeld chunk view now × (left ≡ slabs) × (next ≡ sweep)) ⊎ SeesLinked chunk (λ unheld. VisitsLinked number class chunk sweep unheld Busy next) view slabs now left
Visits number class chunk sweep Locked next view slabs now left = SeesLinked chunk (λ unheld. VisitsLinked number class chunk sweep unheld Locked next) view slabs now left

-- the chunk is to be saved, but there was no memory for a call on its key, and nothing was changed
abbrev pub LacksCallToSave : ChunkId → SlabsDoing
LacksCallToSave chunk view slabs now left = SeesLinked chunk (linked.LacksCallOnKey chunk) view slabs now left
