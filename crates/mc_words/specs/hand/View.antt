-- What a hand knows: its row of the core's moment, the values behind the locks that it has, and the events that it made.
use Rattle.std.specs.Prelude.{ℕ, ◌==◌, List, [], ◌∷◌, ◌++◌, if◌then◌else◌, map, replicate, Option, Some, None}
use Rattle.std.specs.List.{range_with_len}
use Rattle.mc_classes.specs.declared.config.Config.{Config}
use Rattle.mc_classes.specs.Classes.{Classes}
use Rattle.mc_pages.specs.SlabState.{SlabState}
use Rattle.mc_stripe.specs.StripeState.{ReadyStripe}
use Rattle.mc_core.specs.declared.event.Change.{Change}
use Rattle.mc_core.specs.declared.event.Event.{Event}
use Rattle.mc_core.specs.declared.event.Step.{Step}
use Rattle.mc_core.specs.declared.event.Step.TheVariants.{Join}
use Rattle.mc_core.specs.model.State.{State, no_ids}
use Rattle.mc_core.specs.past.Past.{Knowledge, Moment, no_hold}
use Rattle.mc_core.specs.past.Learns.{both_know, knows_nothing}
use Rattle.mc_core.specs.model.Views.{Row, hand_row, held_slabs, held_stripe}

-- what an arena is made with: its configuration, the table of that, how many hands there are, and the issue number of each chunk at first
pub record Setup : Type 0 where
  pub config : Config
  pub table : Classes
  pub hands : ℕ
  pub start : ℕ

-- an event that a hand made: the changes before its step, and the step; of a join only that it was one
pub data OwnEvent : Type 0 where
  made : List Change → Step → OwnEvent
  joined : OwnEvent

-- the changes and the step as an event of the hand's own; for a join neither is kept
abbrev pub own_event : List Change → Step → OwnEvent
own_event before (Join kept spent) = joined
own_event before step = made before step

-- the events of a run that this hand made, the first first
abbrev pub events_of : ℕ → List Event → List OwnEvent
events_of hand [] = []
events_of hand (event ∷ run) = if event.hand == hand then own_event event.before event.step ∷ events_of hand run else events_of hand run

-- a hand's view: the arena's setup, how many hands it may still make, the events that it made, its row, and the values behind its locks
pub record View : Type 0 where
  pub setup : Setup
  pub spare : ℕ
  -- the events that the hand made, the first first
  pub events : List OwnEvent
  pub row : Row
  pub slabs : Option SlabState
  -- the value of each stripe whose lock the hand has, stripe 0 first
  pub stripes : List (Option ReadyStripe)
  -- the rows of the two hands that a join made this one of, and the events of each, until the hand learns of the join
  pub made_of : Option (Row × Row × List OwnEvent × List OwnEvent)

-- of each stripe its value, where the hand has its lock
abbrev pub held_stripes : Setup → State → ℕ → List (Option ReadyStripe)
held_stripes setup state hand = map (held_stripe state hand) (range_with_len 0 setup.config.stripes)

-- the view of a hand that made these events, by all that the moment has of it
abbrev pub view_at : Setup → ℕ → List OwnEvent → Moment → ℕ → View
view_at setup spare events moment hand = record {
  setup = setup;
  spare = spare;
  events = events;
  row = hand_row moment hand;
  slabs = held_slabs moment.state hand;
  stripes = held_stripes setup moment.state hand;
  made_of = None;
}

-- what a new hand of this number knows: it saw and stored nothing, and knows no call of the n stripes
abbrev pub new_knowledge : ℕ → ℕ → Knowledge
new_knowledge stripes number = record {
  seen_words = [];
  hold = no_hold;
  mine = record { number = number; calls = replicate stripes [] } ∷ [];
  seen = replicate stripes [];
  stored = [];
  known = [];
}

-- the view of a hand of this number that did nothing yet, and may make n other hands
abbrev pub new_view : Setup → ℕ → ℕ → View
new_view setup number spare = record {
  setup = setup;
  spare = spare;
  events = [];
  row = record { ids = record { number = Some number; stamps = 0 }; holdings = []; looks = []; knows = new_knowledge setup.config.stripes number };
  slabs = None;
  stripes = map (λ stripe. None) (range_with_len 0 setup.config.stripes);
  made_of = None;
}

-- the setup of no arena
abbrev pub no_setup : Setup
no_setup = record {
  config = record { page = 0; limit = 0; first = 0; num = 0; den = 0; max = 0; stripes = 0; bulk = 0 };
  table = record { page = 0; limit = 0; sizes = [] };
  hands = 0;
  start = 0;
}

-- the view of a hand that another took over: one constant, whatever the arena is
abbrev pub spent_view : View
spent_view = record { setup = no_setup; spare = 0; events = []; row = record { ids = no_ids; holdings = []; looks = []; knows = knows_nothing }; slabs = None; stripes = []; made_of = None }

-- the view of a hand that took another one over
abbrev pub both_views : View → View → View
both_views kept spent = record kept { events = kept.events ++ joined ∷ []; row = record kept.row { knows = both_know kept.row.knows spent.row.knows } }

-- the view of a hand that took another one over, and hasn't learned of that yet
abbrev pub just_made : View → View → View
just_made kept spent = record (both_views kept spent) { made_of = Some (kept.row, spent.row, kept.events, spent.events) }

-- the view of a hand after it learned how it was made
abbrev pub settled_view : View → View
settled_view view = record view { made_of = None }
