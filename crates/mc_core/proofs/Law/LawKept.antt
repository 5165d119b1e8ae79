-- Every change, step and event keeps the law, so every moment of a run is lawful.
use Rattle.std.proofs.Common.{◌≡◌, ℕ, ◌+◌, ◌&&◌, true, false, cond, List, [], ◌∷◌, Result, Ok, Err, refl, sym, ap, ◌∙◌, subst, is_some, slice_index_or}
use Rattle.std.proofs.lemmas.Bool.{and_parts}
use Rattle.mc_core.specs.declared.event.Change.{Change}
use Rattle.mc_core.specs.declared.event.Event.{Event}
use Rattle.mc_core.specs.declared.ids.Ids.{Ids}
use Rattle.mc_core.specs.model.State.{State, no_ids, is_hand}
use Rattle.mc_core.specs.run.Silent.{allows_change, after_change, allows_changes, after_changes}
use Rattle.mc_core.specs.past.Past.{Moment, moment_changed, moment_changes, moment_after, first_moment}
use Rattle.mc_core.specs.run.Run.{allows_step, after_step, is_allowed, state_after_event, play_from}
use Rattle.mc_core.specs.law.Lawful.{IsLawful}
use Rattle.mc_core.specs.law.Laws.{MayChange, MayStep, ChangesKeep, StepsKeep, EventsKeep, HoldsAtFirst, moment_at_end, IsRun, ArePlayed, AreLawful}
use Rattle.mc_core.proofs.Hands.FirstHands.{hands_first, numbered_first, told_first}
use Rattle.mc_core.proofs.Hands.HandsKept.{hands_changes, ids_change}
use Rattle.mc_core.proofs.Hands.HandsSteps.{hands_steps}
use Rattle.mc_core.proofs.Index.IndexedKept.{indexed_changes, indexed_steps, indexed_first}
use Rattle.mc_core.proofs.Known.KnownSteps.{known_changes, known_steps, known_first}
use Rattle.mc_core.proofs.Histories.LegalKept.{legal_changes, legal_steps, legal_first}
use Rattle.mc_core.proofs.Hands.NumberedKept.{numbered_changes}
use Rattle.mc_core.proofs.Hands.NumberedSteps.{numbered_steps}
use Rattle.mc_core.proofs.Places.PagedChanges.{paged_changes}
use Rattle.mc_core.proofs.Places.PagedSteps.{paged_steps, paged_first}
use Rattle.mc_core.proofs.Places.PlacedChanges.{placed_changes}
use Rattle.mc_core.proofs.Places.PlacedSteps.{placed_steps, placed_first}
use Rattle.mc_core.proofs.ItemWords.RescuedSteps.{rescued_changes, rescued_steps, rescued_first}
use Rattle.mc_core.proofs.Hands.RowsKept.{rows_changes, rows_steps, rows_first}
use Rattle.mc_core.proofs.Seen.SeenSteps.{seen_changes, seen_steps, seen_first}
use Rattle.mc_core.proofs.Places.Sized.{sized_changes, sized_steps, sized_first}
use Rattle.mc_core.proofs.Counts.TalliedKept.{counted_changes, counted_steps, counted_first, held_changes, held_steps, held_first}
use Rattle.mc_core.proofs.Histories.ToldSteps.{told_changes, told_steps}

pub lawful_changes : ChangesKeep IsLawful
lawful_changes m hand change may = record {
  sized = sized_changes m hand change may;
  paged = paged_changes m hand change may;
  placed = placed_changes m hand change may;
  counted = counted_changes m hand change may;
  held = held_changes m hand change may;
  indexed = indexed_changes m hand change may;
  legal = legal_changes m hand change may;
  hands = hands_changes m hand change may;
  rows = rows_changes m hand change may;
  numbered = numbered_changes m hand change may;
  seen = seen_changes m hand change may;
  known = known_changes m hand change may;
  rescued = rescued_changes m hand change may;
  told = told_changes m hand change may;
}

pub lawful_steps : StepsKeep IsLawful
lawful_steps m hand step may = record {
  sized = sized_steps m hand step may;
  paged = paged_steps m hand step may;
  placed = placed_steps m hand step may;
  counted = counted_steps m hand step may;
  held = held_steps m hand step may;
  indexed = indexed_steps m hand step may;
  legal = legal_steps m hand step may;
  hands = hands_steps m hand step may;
  rows = rows_steps m hand step may;
  numbered = numbered_steps m hand step may;
  seen = seen_steps m hand step may;
  known = known_steps m hand step may;
  rescued = rescued_steps m hand step may;
  told = told_steps m hand step may;
}

pub lawful_first : HoldsAtFirst IsLawful
lawful_first table stripes hands start sound some someone within_limit small = record {
  sized = sized_first table stripes hands start sound some someone within_limit small;
  paged = paged_first table stripes hands start sound some someone within_limit small;
  placed = placed_first table stripes hands start sound some someone within_limit small;
  counted = counted_first table stripes hands start sound some someone within_limit small;
  held = held_first table stripes hands start sound some someone within_limit small;
  indexed = indexed_first table stripes hands start sound some someone within_limit small;
  legal = legal_first table stripes hands start sound some someone within_limit small;
  hands = hands_first table stripes hands start sound some someone within_limit small;
  rows = rows_first table stripes hands start sound some someone within_limit small;
  numbered = numbered_first table stripes hands start sound some someone within_limit small;
  seen = seen_first table stripes hands start sound some someone within_limit small;
  known = known_first table stripes hands start sound some someone within_limit small;
  rescued = rescued_first table stripes hands start sound some someone within_limit small;
  told = told_first table stripes hands start sound some someone within_limit small;
}

-- the state of a moment is that of the model
pub changes_state : (m : Moment) (hand : ℕ) (changes : List Change) → (moment_changes m hand changes).state ≡ after_changes m.state hand changes
changes_state m hand [] = refl
changes_state m hand (change ∷ changes) = changes_state (moment_changed m hand change) hand changes

pub state_after : (m : Moment) (event : Event) → (moment_after m event).state ≡ state_after_event m.state event
state_after m event = ap (λ (s : State). after_step s event.hand event.step) (changes_state m event.hand event.before)

-- the changes before a step keep the law
pub lawful_all : (m : Moment) (hand : ℕ) (changes : List Change) → IsLawful m → is_hand m.state hand ≡ true → allows_changes m.state hand changes ≡ true
    → IsLawful (moment_changes m hand changes) × (is_hand (moment_changes m hand changes).state hand ≡ true)
lawful_all m hand [] l there h = (l, there)
lawful_all m hand (change ∷ changes) l there h =
    let parts = and_parts (allows_change m.state hand change) (allows_changes (after_change m.state hand change) hand changes) h in
    let may : MayChange m hand change = record { lawful = l; there = there; allowed = parts.0 } in
    let still : is_hand (after_change m.state hand change) hand ≡ true = ap (λ (ids : List Ids). is_some (slice_index_or ids hand no_ids).number) (ids_change m.state hand change) ∙ there in
    lawful_all (moment_changed m hand change) hand changes (lawful_changes m hand change may) still parts.1

-- an event is allowed as its changes and then its step are
pub may_step : (m : Moment) (event : Event) → IsLawful m → is_allowed m.state event ≡ true → MayStep (moment_changes m event.hand event.before) event.hand event.step
may_step m event l h =
    let parts = and_parts (is_hand m.state event.hand) (allows_changes m.state event.hand event.before && allows_step (after_changes m.state event.hand event.before) event.hand event.step) h in
    let both = and_parts (allows_changes m.state event.hand event.before) (allows_step (after_changes m.state event.hand event.before) event.hand event.step) parts.1 in
    let ready = lawful_all m event.hand event.before l parts.0 both.0 in
    record {
      lawful = ready.0;
      there = ready.1;
      allowed = subst (λ (s : State). allows_step s event.hand event.step ≡ true) (sym (changes_state m event.hand event.before)) both.1;
    }

-- what steps keep, events keep
pub events_from_steps : (Clause : Moment → Type 0) → StepsKeep Clause → EventsKeep Clause
events_from_steps Clause steps m event l h = steps (moment_changes m event.hand event.before) event.hand event.step (may_step m event l h)

pub lawful_events : EventsKeep IsLawful
lawful_events = events_from_steps IsLawful lawful_steps

-- every moment of a run is lawful
pub lawful_run : (m : Moment) (events : List Event) → IsLawful m → IsRun m events → IsLawful (moment_at_end m events)
lawful_run m [] l run = l
lawful_run m (event ∷ events) l run = lawful_run (moment_after m event) events (lawful_events m event l run.0) run.1

-- events that are played to the end are a run
played_from : (place : ℕ) (m : Moment) (events : List Event) (state : State) → play_from place m.state events ≡ Ok state → IsRun m events × ((moment_at_end m events).state ≡ state)
played_from place m [] state e = (tt, same_state m.state state e)
  where
    same_state : (a b : State) → ◌≡◌ {A = Result State ℕ} (Ok a) (Ok b) → a ≡ b
    same_state a b e = cc
played_from place m (event ∷ events) state e =
    elim (is_allowed m.state event) as (λ b. is_allowed m.state event ≡ b → cond b (play_from (place + 1) (state_after_event m.state event) events) (Err place) ≡ Ok state → ((is_allowed m.state event ≡ true) × IsRun (moment_after m event) events) × ((moment_at_end (moment_after m event) events).state ≡ state)) [
      | true ↦ λ is played.
          let rest = played_from (place + 1) (moment_after m event) events state (ap (λ (s : State). play_from (place + 1) s events) (state_after m event) ∙ played) in
          ((is, rest.0), rest.1)
      | false ↦ λ is played. absurd (cc)
    ] refl e

pub are_played : (events : List Event) → ArePlayed events
are_played events m state e = played_from 0 m events state e

pub are_lawful : AreLawful
are_lawful = record {
  runs = lawful_run;
  from_first = λ table stripes hands start events state sound some someone within_limit small e.
      let first = first_moment table stripes hands start in
      let played = are_played events first state e in
      (played.1, lawful_run first events (lawful_first table stripes hands start sound some someone within_limit small) played.0);
}
