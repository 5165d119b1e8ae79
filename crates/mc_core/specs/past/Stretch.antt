-- A stretch of a run in which a hand keeps one holding, and what stays meanwhile.
use Rattle.std.specs.Prelude.{◌≡◌, ℕ, ◌<◌, ◌==◌, Bool, true, false, not, ◌&&◌, List, [], ◌∷◌, Contains}
use Rattle.std.specs.List.{list_all}
use Rattle.mc_pages.specs.declared.ids.ChunkId.{ChunkId}
use Rattle.mc_pages.specs.ClassState.{is_chunk}
use Rattle.mc_pages.specs.SlabState.{HasClass, class_of_page}
use Rattle.mc_core.specs.declared.event.Event.{Event}
use Rattle.mc_core.specs.declared.event.Step.{Step}
use Rattle.mc_core.specs.declared.event.Step.TheVariants.{Fill}
use Rattle.mc_core.specs.declared.holding.Holding.{Holding}
use Rattle.mc_core.specs.model.Holdings.{is_fresh}
use Rattle.mc_core.specs.model.State.{State, chunk_room, word_at, holdings_at}
use Rattle.mc_core.specs.model.Columns.{head_in, IsHandedOut}
use Rattle.mc_core.specs.past.Past.{Moment, moment_after}
use Rattle.mc_core.specs.run.Run.{is_allowed}
use Rattle.mc_core.specs.law.Laws.{moment_at_end}
use Rattle.mc_core.specs.law.Lawful.{IsLawful}

-- the hand holds the chunk, with this issue number
pub record HoldsChunk (moment : Moment) (hand : ℕ) (chunk : ChunkId) (issue : ℕ) : Type 0 where
  pub holding : Holding
  pub among : Contains (holdings_at moment.state hand) holding
  pub same_chunk : holding.chunk ≡ chunk
  pub same_issue : holding.issue ≡ issue

-- each event is allowed, and the hand holds the chunk before and after each
abbrev pub KeepsHolding : Moment → ℕ → ChunkId → ℕ → List Event → Type 0
KeepsHolding moment hand chunk issue [] = HoldsChunk moment hand chunk issue
KeepsHolding moment hand chunk issue (event ∷ events) =
    HoldsChunk moment hand chunk issue × (is_allowed moment.state event ≡ true) × KeepsHolding (moment_after moment event) hand chunk issue events

-- the step writes a word of the chunk
abbrev pub fills_chunk : ChunkId → Step → Bool
fills_chunk chunk (Fill filled place word) = is_chunk filled chunk
fills_chunk chunk other = false

-- by this event the hand writes a word of the chunk
abbrev pub is_fill_of : ℕ → ChunkId → Event → Bool
is_fill_of hand chunk event = event.hand == hand && fills_chunk chunk event.step

-- the data words of the chunk are the same
abbrev pub HasSameWords : State → State → ChunkId → Type 0
HasSameWords before now chunk = (place : ℕ) → place < chunk_room before chunk → word_at now chunk place ≡ word_at before chunk place

-- the chunk is handed out with its issue, and its page is of the same class or moves away from it. The words that the hand itself doesn't
-- write are the same; those of a reference all are
pub record StaysKept (before now : Moment) (hand : ℕ) (chunk : ChunkId) (issue : ℕ) (events : List Event) : Type 0 where
  pub handed_out : IsHandedOut (head_in now.state.table now.state.heads chunk) issue
  pub owned : HasClass now.state.slabs (class_of_page now.state.slabs chunk.page)
  pub same_class : class_of_page now.state.slabs chunk.page ≡ class_of_page before.state.slabs chunk.page
  pub unfilled : list_all (λ event. not (is_fill_of hand chunk event)) events ≡ true → HasSameWords before.state now.state chunk
  pub referred : (held : HoldsChunk before hand chunk issue) → is_fresh held.holding ≡ false → HasSameWords before.state now.state chunk

-- *kept*: over every stretch that begins in a lawful moment, and in which a hand keeps a holding, its chunk stays kept
abbrev pub StretchesKeep : Type 0
StretchesKeep = (moment : Moment) (hand : ℕ) (chunk : ChunkId) (issue : ℕ) (events : List Event) → IsLawful moment → KeepsHolding moment hand chunk issue events
    → StaysKept moment (moment_at_end moment events) hand chunk issue events
