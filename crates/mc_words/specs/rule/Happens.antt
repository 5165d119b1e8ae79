-- Events of the core, as the hand that makes them knows them.
use Rattle.std.specs.Prelude.{◌≡◌, ℕ, ◌<◌, ◌^◌, Bool, true, false, List, [], ◌∷◌, ◌++◌, length, is_some, map, slice_index, slice_set}
use Rattle.mc_core.specs.declared.event.Change.{Change}
use Rattle.mc_core.specs.declared.event.Event.{Event}
use Rattle.mc_core.specs.declared.event.Step.{Step}
use Rattle.mc_core.specs.declared.event.Step.TheVariants.{TakeSlabs, TakeStripe, GiveSlabs, GiveStripe, Join}
use Rattle.mc_core.specs.model.State.{is_hand}
use Rattle.mc_core.specs.past.Past.{Moment, moment_after}
use Rattle.mc_core.specs.law.Lawful.{IsLawful}
use Rattle.mc_core.specs.run.Silent.{allows_change, after_change}
use Rattle.mc_core.specs.run.Run.{allows_step, after_step, is_allowed}
use Rattle.mc_words.specs.hand.View.{View, events_of, own_event, view_at}
use Rattle.mc_words.specs.rule.Meaning.{WordsOf, AreCut, IsReachedBy}

-- the view is what a lawful moment has of a hand; with the words that the table had then, and the classes of its pages
pub record LawfulView (view : View) : Type 0 where
  pub moment : Moment
  pub hand : ℕ
  pub lawful : IsLawful moment
  pub same_table : moment.state.table ≡ view.setup.table
  pub hands : length moment.state.ids ≡ view.setup.hands
  pub stripes : length moment.state.stripes ≡ view.setup.config.stripes
  pub there : is_hand moment.state hand ≡ true
  -- the events that lead to the moment from the arena's beginning, of which the view has those that the hand made
  pub run : List Event
  pub reached : IsReachedBy view.setup run moment
  pub is : view ≡ view_at view.setup view.spare (events_of hand run) moment hand
  pub words : List ℕ
  pub cuts : List ℕ
  pub are : WordsOf view.setup cuts words moment.state
  pub cut : AreCut cuts moment.state.slabs

-- the event by which this hand makes these changes and then this step
abbrev pub event_of : ℕ → List Change → Step → Event
event_of hand before step = record { hand = hand; before = before; step = step }

-- the changes and the step were one event of the model by this hand, allowed in a lawful moment: the hand's view was the one before it, and
-- is the other after it
pub record Happens (view : View) (before : List Change) (step : Step) (now : View) : Type 0 where
  pub was : LawfulView view
  pub allowed : is_allowed was.moment.state (event_of was.hand before step) ≡ true
  pub is : now ≡ view_at view.setup view.spare (view.events ++ own_event before step ∷ []) (moment_after was.moment (event_of was.hand before step)) was.hand

-- the changes and the step were one event of the model by this hand, and before it the word at this place was this
abbrev pub HappensAt : ℕ → ℕ → View → List Change → Step → View → Type 0
HappensAt place word view before step now = (happens : Happens view before step now) × (slice_index happens.was.words place ≡ word)

-- the step takes and gives no lock, and joins no hands
abbrev pub keeps_locks_and_hands : Step → Bool
keeps_locks_and_hands TakeSlabs = false
keeps_locks_and_hands (TakeStripe stripe) = false
keeps_locks_and_hands GiveSlabs = false
keeps_locks_and_hands (GiveStripe stripe) = false
keeps_locks_and_hands (Join kept spent) = false
keeps_locks_and_hands other = true

-- wherever a hand knows this view, the model allows the step, which changes the word at this place by this function
abbrev pub MayWrite : View → Step → ℕ → (ℕ → ℕ) → Type 0
MayWrite view step place written =
    (was : LawfulView view) → slice_index was.words place < 2 ^ 64 →
    (allows_step was.moment.state was.hand step ≡ true) × WordsOf view.setup was.cuts (slice_set was.words place (written (slice_index was.words place))) (after_step was.moment.state was.hand step)

-- where a hand knows this view, and the word at this place is as expected, the model allows the step, which writes this word
abbrev pub MayExchange : View → Step → ℕ → ℕ → ℕ → Type 0
MayExchange view step place expected word =
    (was : LawfulView view) → slice_index was.words place < 2 ^ 64 → slice_index was.words place ≡ expected →
    (allows_step was.moment.state was.hand step ≡ true) × WordsOf view.setup was.cuts (slice_set was.words place word) (after_step was.moment.state was.hand step)

-- wherever a hand knows this view, the model allows this change and then the step, which changes the word at this place by this function
pub record AllowsStep (view : View) (change : Change) (step : Step) (place : ℕ) (written : ℕ → ℕ) : Type 0 where
  pub allowed : (was : LawfulView view) → allows_change was.moment.state was.hand change ≡ true
  pub step_allowed : (was : LawfulView view) → allows_step (after_change was.moment.state was.hand change) was.hand step ≡ true
  pub writes : (was : LawfulView view) →
      let now = after_step (after_change was.moment.state was.hand change) was.hand step in
      (cuts : List ℕ) × WordsOf view.setup cuts (slice_set was.words place (written (slice_index was.words place))) now × AreCut cuts now.slabs

-- the views are of one hand, which has the same locks
pub record IsSameHand (view now : View) : Type 0 where
  pub setup : now.setup ≡ view.setup
  pub spare : now.spare ≡ view.spare
  pub number : now.row.ids.number ≡ view.row.ids.number
  pub slabs : is_some now.slabs ≡ is_some view.slabs
  pub stripes : map is_some now.stripes ≡ map is_some view.stripes
