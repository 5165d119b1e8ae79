-- What the words, the values at home and the views of a table mean: a lawful moment of the core.
use Rattle.std.specs.Prelude.{◌≡◌, ℕ, zero, suc, ◌+◌, ◌<◌, ◌≤◌, true, false, List, map, length, take, drop, ◌∷◌, slice_index}
use mathlib.Core.Option.{some}
use lib.ListN.{get_elem?}
use Rattle.atomic_table.specs.Table as table
use Rattle.mc_classes.specs.Classes.{arena_pages_of}
use Rattle.mc_pages.specs.SlabState.{SlabState, class_of_page}
use Rattle.mc_core.specs.declared.head.Head.{Head}
use Rattle.mc_core.specs.model.Head.{decode}
use Rattle.mc_core.specs.model.State.{State, is_hand, stripe_at}
use Rattle.mc_core.specs.past.Past.{Moment, first_moment}
use Rattle.mc_core.specs.declared.event.Event.{Event}
use Rattle.mc_core.specs.law.Laws.{IsRun, moment_at_end}
use Rattle.mc_core.specs.law.Lawful.{IsLawful}
use Rattle.mc_words.specs.declared.lock.slot.Slot.{Slot}
use Rattle.mc_words.specs.declared.lock.slot.Slot.TheVariants.{Empty, OfSlabs, OfStripe}
use Rattle.mc_words.specs.hand.View.{Setup, View, events_of, view_at, new_view, spent_view}
use Rattle.mc_words.specs.rule.Layout.{words_between, spread, lock_address, pages_from, heads_from, head_count, data_from, data_count, config_from, config_words, word_count}
use Rattle.mc_words.specs.lock.Slots.{slot_at, slot_count}

-- the table of an arena: words of 64 bits, values at home, and views
abbrev pub WordsOfTable : Type 0
WordsOfTable = table.State Slot View

-- the words are these columns, and the configuration of the setup
pub record WordsAreColumns (setup : Setup) (cuts words : List ℕ) (lock : ℕ) (stripe_locks : List ℕ) (headers : List Head) (stored : List ℕ) : Type 0 where
  pub wide : length words ≡ word_count setup
  -- the words of the hands and of the locks: each is followed by words that are 0 always. Nothing is written into the word of the hands
  pub locks : take (pages_from setup) words ≡ spread words_between 0 (0 ∷ lock ∷ stripe_locks)
  pub pages : take (arena_pages_of setup.table) (drop (pages_from setup) words) ≡ cuts
  pub heads : map decode (take (head_count setup) (drop (heads_from setup) words)) ≡ headers
  pub items : take (data_count setup) (drop (data_from setup) words) ≡ stored
  pub configured : drop (config_from setup) words ≡ config_words setup.config

-- the words are the columns of the state, and these classes of pages
abbrev pub WordsOf : Setup → List ℕ → List ℕ → State → Type 0
WordsOf setup cuts words state = WordsAreColumns setup cuts words state.slabs_lock state.stripe_locks state.heads state.words

-- the slot has the value behind the lock of this number: of lock 0 pages and lists, and of lock i + 1 stripe i
abbrev pub Has : State → ℕ → Slot → Type 0
Has state zero (OfSlabs slabs) = slabs ≡ state.slabs
Has state (suc stripe) (OfStripe value) = value ≡ stripe_at state stripe
Has state zero (OfStripe value) = ⊥
Has state zero Empty = ⊥
Has state (suc stripe) (OfSlabs slabs) = ⊥
Has state (suc stripe) Empty = ⊥

-- a lock whose word is 0 has its value at home
abbrev pub AreHome : Setup → List ℕ → List (mathlib.Core.Option.Option Slot) → State → Type 0
AreHome setup words homes state = (lock : ℕ) → lock ≤ setup.config.stripes → slice_index words (lock_address lock) ≡ 0 → (slot : Slot) × (get_elem? homes (slot_at lock) ≡ some (some slot)) × Has state lock slot

-- the moment before anything was done in an arena
abbrev pub beginning_of : Setup → Moment
beginning_of setup = first_moment setup.table setup.config.stripes setup.hands setup.start

-- the moment comes after these events, from the beginning on, each of which was allowed
pub record IsReachedBy (setup : Setup) (run : List Event) (moment : Moment) : Type 0 where
  pub is_run : IsRun (beginning_of setup) run
  pub end : moment_at_end (beginning_of setup) run ≡ moment

-- the view is what the moment has of the hand, with the events of the run that the hand made; all hands that are gone have the same view
pub record IsViewOf (setup : Setup) (run : List Event) (moment : Moment) (hand : ℕ) (view : View) : Type 0 where
  pub there : is_hand moment.state hand ≡ true → view ≡ view_at setup view.spare (events_of hand run) moment hand
  pub gone : is_hand moment.state hand ≡ false → view ≡ spent_view

-- the word of each page is the class that has it, 0 where none has
abbrev pub AreCut : List ℕ → SlabState → Type 0
AreCut cuts slabs = (page : ℕ) → slice_index cuts page ≡ class_of_page slabs page

-- the table is the moment; a hand that isn't made yet has done nothing
pub record Means (setup : Setup) (cuts : List ℕ) (run : List Event) (t : WordsOfTable) (moment : Moment) : Type 0 where
  pub same_table : moment.state.table ≡ setup.table
  pub hands : length moment.state.ids ≡ setup.hands
  pub stripes : length moment.state.stripes ≡ setup.config.stripes
  pub words : WordsOf setup cuts t.words moment.state
  pub cut : AreCut cuts moment.state.slabs
  pub homes : AreHome setup t.words t.homes moment.state
  pub slots : length t.homes ≡ slot_count setup.config.stripes
  pub views : (hand : ℕ) (view : View) → get_elem? t.views hand ≡ some view → IsViewOf setup run moment hand view
  pub most : length t.views ≤ setup.hands
  -- the first hand makes the others
  pub made : (hand : ℕ) (view : View) → get_elem? t.views hand ≡ some view → 1 ≤ view.spare → (hand ≡ 0) × (length t.views + view.spare ≡ setup.hands)
  pub unmade : (hand : ℕ) → length t.views ≤ hand → hand < setup.hands → IsViewOf setup run moment hand (new_view setup hand 0)

-- the rule of the table: it means a lawful moment, which was reached from the arena's beginning
pub record IsRuled (setup : Setup) (t : WordsOfTable) : Type 0 where
  pub moment : Moment
  pub run : List Event
  -- the words of the pages: for each the class that has it
  pub cuts : List ℕ
  pub means : Means setup cuts run t moment
  pub lawful : IsLawful moment
  pub reached : IsReachedBy setup run moment
