-- What each step does to words and to histories, and where a run ends.
use Rattle.std.specs.Prelude.{◌≡◌, ◌≢◌, ℕ, true, List, ◌++◌, slice_index, slice_index_or, Some, Ok, All}
use Rattle.mc_stripe.specs.declared.history.Call.{Call}
use Rattle.mc_core.specs.declared.event.Change.{Change}
use Rattle.mc_core.specs.declared.event.Event.{Event}
use Rattle.mc_core.specs.declared.event.Step.{Step}
use Rattle.mc_core.specs.model.Head.{never_cut}
use Rattle.mc_core.specs.model.State.{State, number_at}
use Rattle.mc_core.specs.run.Run.{is_allowed, state_after_all}
use Rattle.mc_core.specs.law.Histories.{hand_of}
use Rattle.mc_core.specs.past.Past.{Moment, history_at, moment_changed, moment_stepped, moment_after}
use Rattle.mc_core.specs.law.Lawful.{IsLawful}
use Rattle.mc_core.specs.law.Laws.{MayChange, MayStep, IsRun, moment_at_end}

-- the place of a word: a header, a data word, the word of the slabs lock, that of a stripe's lock, or the word of the hands
pub data Place : Type 0 where
  of_header : ℕ → Place
  of_data : ℕ → Place
  of_slabs : Place
  of_stripe : ℕ → Place
  of_hands : Place

-- the word at the place is unchanged; for the word of the hands, each hand has the number that it had
abbrev pub IsSameAt : State → State → Place → Type 0
IsSameAt before now (of_header at) = slice_index_or now.heads at never_cut ≡ slice_index_or before.heads at never_cut
IsSameAt before now (of_data at) = slice_index now.words at ≡ slice_index before.words at
IsSameAt before now of_slabs = now.slabs_lock ≡ before.slabs_lock
IsSameAt before now (of_stripe at) = slice_index now.stripe_locks at ≡ slice_index before.stripe_locks at
IsSameAt before now of_hands = (hand : ℕ) → number_at now hand ≡ number_at before hand

-- all words are as they were, but for the one at this place
abbrev pub IsSameBut : State → State → Place → Type 0
IsSameBut before now written = (place : Place) → place ≢ written → IsSameAt before now place

-- a silent change writes no word, and a step or an event writes one at most
pub record WriteOneWord : Type 0 where
  pub changes : (moment : Moment) (hand : ℕ) (change : Change) → MayChange moment hand change → (place : Place) → IsSameAt moment.state (moment_changed moment hand change).state place
  pub steps : (moment : Moment) (hand : ℕ) (step : Step) → MayStep moment hand step → (written : Place) × IsSameBut moment.state (moment_stepped moment hand step).state written
  pub events : (moment : Moment) (event : Event) → IsLawful moment → is_allowed moment.state event ≡ true → (written : Place) × IsSameBut moment.state (moment_after moment event).state written

-- the calls grew at their end, by calls of this number alone
pub record HasGrown (number : ℕ) (before now : List Call) : Type 0 where
  pub more : List Call
  pub grown : now ≡ before ++ more
  pub own : All (λ call. hand_of call ≡ number) more

-- each history grew by calls of the hand's number alone
abbrev pub HaveGrown : State → State → ℕ → Type 0
HaveGrown before now hand = (number stripe : ℕ) → number_at before hand ≡ Some number → HasGrown number (history_at before stripe) (history_at now stripe)

-- each change, each step and each event of a hand adds to histories calls of its own number alone
pub record HistoriesGrow : Type 0 where
  pub changes : (moment : Moment) (hand : ℕ) (change : Change) → MayChange moment hand change → HaveGrown moment.state (moment_changed moment hand change).state hand
  pub steps : (moment : Moment) (hand : ℕ) (step : Step) → MayStep moment hand step → HaveGrown moment.state (moment_stepped moment hand step).state hand
  pub events : (moment : Moment) (event : Event) → IsLawful moment → is_allowed moment.state event ≡ true → HaveGrown moment.state (moment_after moment event).state event.hand

-- a run is played to its end, and its state is that of its last moment
abbrev pub RunsArePlayed : Type 0
RunsArePlayed = (moment : Moment) (events : List Event) → IsRun moment events → state_after_all moment.state events ≡ Ok ((moment_at_end moment events).state)
