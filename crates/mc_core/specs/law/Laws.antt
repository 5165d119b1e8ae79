-- What the laws state: each change and each step that is allowed in a lawful moment keeps each clause.
use Rattle.std.specs.Prelude.{◌≡◌, ⊤, ℕ, ◌≤◌, true, List, [], ◌∷◌, Ok}
use Rattle.mc_classes.specs.Limits.{most_hands}
use Rattle.mc_classes.specs.Classes.{Classes, IsSound}
use Rattle.mc_pages.specs.declared.ids.ChunkId.{ChunkId}
use Rattle.mc_pages.specs.SlabState.{class_of_page}
use Rattle.mc_core.specs.declared.event.Change.{Change}
use Rattle.mc_core.specs.declared.event.Event.{Event}
use Rattle.mc_core.specs.declared.event.Step.{Step}
use Rattle.mc_core.specs.model.State.{State, is_hand, has_chunk, new_state}
use Rattle.mc_core.specs.run.Silent.{allows_change}
use Rattle.mc_core.specs.run.Chunks.{most_issue}
use Rattle.mc_core.specs.run.Run.{allows_step, is_allowed, state_after_all}
use Rattle.mc_core.specs.model.Columns.{head_in, IsHandedOut}
use Rattle.mc_core.specs.past.Past.{Moment, moment_changed, moment_stepped, moment_after, first_moment}
use Rattle.mc_core.specs.law.Lawful.{IsLawful}

-- the hand may make this change, in a lawful moment
pub record MayChange (moment : Moment) (hand : ℕ) (change : Change) : Type 0 where
  pub lawful : IsLawful moment
  pub there : is_hand moment.state hand ≡ true
  pub allowed : allows_change moment.state hand change ≡ true

-- the hand may do this, in a lawful moment
pub record MayStep (moment : Moment) (hand : ℕ) (step : Step) : Type 0 where
  pub lawful : IsLawful moment
  pub there : is_hand moment.state hand ≡ true
  pub allowed : allows_step moment.state hand step ≡ true

-- every change of a value behind a lock keeps the clause
abbrev pub ChangesKeep : (Moment → Type 0) → Type 0
ChangesKeep Clause = (moment : Moment) (hand : ℕ) (change : Change) → MayChange moment hand change → Clause (moment_changed moment hand change)

-- every step keeps the clause
abbrev pub StepsKeep : (Moment → Type 0) → Type 0
StepsKeep Clause = (moment : Moment) (hand : ℕ) (step : Step) → MayStep moment hand step → Clause (moment_stepped moment hand step)

-- a chunk that is handed out stays the chunk of its class
abbrev pub StaysOfClass : State → State → Type 0
StaysOfClass before now = (chunk : ChunkId) (issue : ℕ) → has_chunk before.table chunk ≡ true → IsHandedOut (head_in before.table before.heads chunk) issue →
    class_of_page now.slabs chunk.page ≡ class_of_page before.slabs chunk.page

-- every event keeps the clause
abbrev pub EventsKeep : (Moment → Type 0) → Type 0
EventsKeep Clause = (moment : Moment) (event : Event) → IsLawful moment → is_allowed moment.state event ≡ true → Clause (moment_after moment event)

-- the clause holds before anything was done, of each arena that can be made, from each issue number on
abbrev pub HoldsAtFirst : (Moment → Type 0) → Type 0
HoldsAtFirst Clause = (table : Classes) (stripes hands start : ℕ) → IsSound table → 1 ≤ stripes → 1 ≤ hands → hands ≤ most_hands → start ≤ most_issue →
    Clause (first_moment table stripes hands start)

-- the clause holds at first, and is kept by each change, each step and each event
pub record IsKeptByAll (Clause : Moment → Type 0) : Type 0 where
  pub first : HoldsAtFirst Clause
  pub changes : ChangesKeep Clause
  pub steps : StepsKeep Clause
  pub events : EventsKeep Clause

-- the moment after these events
abbrev pub moment_at_end : Moment → List Event → Moment
moment_at_end moment [] = moment
moment_at_end moment (event ∷ events) = moment_at_end (moment_after moment event) events

-- each event is allowed after those before it
abbrev pub IsRun : Moment → List Event → Type 0
IsRun moment [] = ⊤
IsRun moment (event ∷ events) = (is_allowed moment.state event ≡ true) × IsRun (moment_after moment event) events

-- where events are played to the end, they are a run, and their state is that of the run's last moment
abbrev pub ArePlayed : List Event → Type 0
ArePlayed events = (moment : Moment) (state : State) → state_after_all moment.state events ≡ Ok state → IsRun moment events × ((moment_at_end moment events).state ≡ state)

-- every moment of a run is lawful; and what is played to the end from the beginning ends in a lawful moment
pub record AreLawful : Type 0 where
  pub runs : (moment : Moment) (events : List Event) → IsLawful moment → IsRun moment events → IsLawful (moment_at_end moment events)
  pub from_first : (table : Classes) (stripes hands start : ℕ) (events : List Event) (state : State) → IsSound table → 1 ≤ stripes → 1 ≤ hands → hands ≤ most_hands → start ≤ most_issue →
      state_after_all (new_state table stripes hands start) events ≡ Ok state →
      ((moment_at_end (first_moment table stripes hands start) events).state ≡ state) × IsLawful (moment_at_end (first_moment table stripes hands start) events)
