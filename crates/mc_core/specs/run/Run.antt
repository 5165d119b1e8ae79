-- Lists of events, played one after another.
use Rattle.std.specs.Prelude.{◌≡◌, ◌⊎◌, ℕ, ◌+◌, Bool, true, ◌&&◌, if◌then◌else◌, List, [], ◌∷◌, Result, Ok, Err}
use Rattle.mc_core.specs.declared.event.Event.{Event}
use Rattle.mc_core.specs.declared.event.Step.{Step}
use Rattle.mc_core.specs.declared.event.Step.TheVariants.{TakeSlabs, TakeStripe, MissSlabs, MissStripe, GiveSlabs, GiveStripe, Pop, PopOff, Fill, Word, WordHeld, Link, Refer, Unlink, Release, Discard, Condemn, PutBack, Clear, Cut, Again, Join}
use Rattle.mc_core.specs.declared.event.Step.TheVariants as step
use Rattle.mc_classes.specs.declared.config.Config.{Config}
use Rattle.mc_classes.specs.Classes.{Classes, IsTableOf}
use Rattle.mc_core.specs.declared.stop.Stop.{Stop}
use Rattle.mc_core.specs.declared.stop.Stop.TheVariants.{NotAllowed, NoMemory}
use Rattle.mc_core.specs.model.State.{State, is_hand, new_state}
use Rattle.mc_core.specs.run.Silent.{allows_changes, after_changes}
use Rattle.mc_core.specs.run.Locks as locks
use Rattle.mc_core.specs.run.Chunks as chunks
use Rattle.mc_core.specs.run.Items as items
use Rattle.mc_core.specs.run.Evictions as evictions
use Rattle.mc_core.specs.run.Hands as hands

-- the hand may take this step
abbrev pub allows_step : State → ℕ → Step → Bool
allows_step state hand TakeSlabs = locks.can_take_slabs state
allows_step state hand (TakeStripe stripe) = locks.can_take_stripe state stripe
allows_step state hand MissSlabs = true
allows_step state hand (MissStripe stripe) = locks.has_stripes state stripe
allows_step state hand GiveSlabs = locks.can_give_slabs state hand
allows_step state hand (GiveStripe stripe) = locks.can_give_stripe state hand stripe
allows_step state hand (step.Head chunk) = locks.can_look state chunk
allows_step state hand (Pop class) = chunks.can_pop state hand class
allows_step state hand (PopOff old) = chunks.can_pop_off state hand old
allows_step state hand (Fill chunk place word) = chunks.can_fill state hand chunk place
allows_step state hand (Word chunk place) = items.can_word state hand chunk place
allows_step state hand (WordHeld chunk place) = items.can_word_held state hand chunk place
allows_step state hand (Link chunk) = items.can_link state hand chunk
allows_step state hand (Refer key) = items.can_refer state hand key
allows_step state hand (Unlink key) = items.can_unlink state hand key
allows_step state hand (Release chunk) = chunks.can_release state hand chunk
allows_step state hand (Discard chunk) = chunks.can_discard state hand chunk
allows_step state hand (Condemn chunk) = evictions.can_condemn state hand chunk
allows_step state hand (PutBack chunk) = chunks.can_put_back state hand chunk
allows_step state hand (Clear chunk) = chunks.can_clear state hand chunk
allows_step state hand (Cut page index) = chunks.can_cut state hand (record { page = page; index = index })
allows_step state hand (Again chunk issue) = items.can_again state hand chunk issue
allows_step state hand (Join kept spent) = hands.can_join state hand kept spent

-- the state after the step
abbrev pub after_step : State → ℕ → Step → State
after_step state hand TakeSlabs = locks.after_take_slabs state hand
after_step state hand (TakeStripe stripe) = locks.after_take_stripe state hand stripe
after_step state hand MissSlabs = state
after_step state hand (MissStripe stripe) = locks.after_miss_stripe state hand stripe
after_step state hand GiveSlabs = locks.after_give_slabs state
after_step state hand (GiveStripe stripe) = locks.after_give_stripe state stripe
after_step state hand (step.Head chunk) = locks.after_look state hand chunk
after_step state hand (Pop class) = chunks.state_after_pop state hand class
after_step state hand (PopOff old) = chunks.after_pop_off state hand old
after_step state hand (Fill chunk place word) = chunks.after_fill state hand chunk place word
after_step state hand (Word chunk place) = state
after_step state hand (WordHeld chunk place) = items.after_word_held state hand chunk place
after_step state hand (Link chunk) = items.state_after_link state hand chunk
after_step state hand (Refer key) = items.after_refer state hand key
after_step state hand (Unlink key) = items.state_after_unlink state hand key
after_step state hand (Release chunk) = chunks.after_drop state hand chunk
after_step state hand (Discard chunk) = chunks.after_drop state hand chunk
after_step state hand (Condemn chunk) = evictions.after_condemn state hand chunk
after_step state hand (PutBack chunk) = chunks.after_put_back state hand chunk
after_step state hand (Clear chunk) = chunks.state_after_clear state hand chunk
after_step state hand (Cut page index) = chunks.state_after_cut state hand (record { page = page; index = index })
after_step state hand (Again chunk issue) = items.with_reference state hand chunk
after_step state hand (Join kept spent) = hands.after_join state spent

-- the event may come next: its hand is there, the changes before it are allowed one after another, and then its step
abbrev pub is_allowed : State → Event → Bool
is_allowed state event =
    is_hand state event.hand && (allows_changes state event.hand event.before && allows_step (after_changes state event.hand event.before) event.hand event.step)

-- the state after the event
abbrev pub state_after_event : State → Event → State
state_after_event state event = after_step (after_changes state event.hand event.before) event.hand event.step

-- the state after these events, or the place of the first that isn't allowed, counted on from here
abbrev pub play_from : ℕ → State → List Event → Result State ℕ
play_from place state [] = Ok state
play_from place state (event ∷ events) = if is_allowed state event then play_from (place + 1) (state_after_event state event) events else Err place

-- the state after these events, or the place of the first that isn't allowed, counted from 0
abbrev pub state_after_all : State → List Event → Result State ℕ
state_after_all state events = play_from 0 state events

-- what the events answer from the beginning: a state, or the place of the first event that isn't allowed; or memory ran out
abbrev pub EndsRunAs : Result State ℕ → Result State Stop → Type 0
EndsRunAs (Ok state) told = (told ≡ Ok state) ⊎ (told ≡ Err (NoMemory tt))
EndsRunAs (Err place) told = (told ≡ Err (NotAllowed place)) ⊎ (told ≡ Err (NoMemory tt))

-- the events were played with the table of this configuration, from the beginning
pub record IsPlayed (config : Config) (hands : ℕ) (events : List Event) (told : Result State Stop) : Type 0 where
  pub exact : (table : Classes) → IsTableOf config table → EndsRunAs (state_after_all (new_state table config.stripes hands 0) events) told
