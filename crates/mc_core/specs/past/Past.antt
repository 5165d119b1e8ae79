-- What hands saw and know, which decides nothing.
use Rattle.std.specs.Prelude.{ℕ, ◌+◌, ◌==◌, nat_le, if◌then◌else◌, List, [], ◌∷◌, ◌++◌, length, map, drop, replicate, slice_index, slice_index_or, slice_set, Option, Some, None, Contains}
use Rattle.std.specs.List.{range_with_len}
use Rattle.mc_classes.specs.Classes.{Classes}
use Rattle.mc_pages.specs.declared.ids.ChunkId.{ChunkId}
use Rattle.mc_pages.specs.SlabState.{SlabState, fresh_slabs}
use Rattle.mc_stripe.specs.declared.history.Call.{Call}
use Rattle.mc_stripe.specs.StripeState.{ReadyStripe}
use Rattle.mc_core.specs.declared.head.Head.{Head}
use Rattle.mc_core.specs.declared.event.Change.{Change}
use Rattle.mc_core.specs.declared.event.Event.{Event}
use Rattle.mc_core.specs.declared.event.Step.{Step}
use Rattle.mc_core.specs.declared.event.Step.TheVariants.{TakeSlabs, TakeStripe, MissSlabs, MissStripe, GiveSlabs, GiveStripe, Link, Refer, Again, Join}
use Rattle.mc_core.specs.declared.event.Step.TheVariants as step
use Rattle.mc_core.specs.declared.holding.Holding.{Holding}
use Rattle.mc_core.specs.declared.holding.Kind.{Kind}
use Rattle.mc_core.specs.declared.holding.Kind.TheVariants.{Fresh}
use Rattle.mc_core.specs.declared.holding.Purpose.TheVariants.{Rescue}
use Rattle.mc_core.specs.model.Holdings.{Words, stamp_in, words_of_item, holding_of, numbers_of_known, holding_words, item_of}
use Rattle.mc_core.specs.model.State.{State, chunk_room, head_at, number_at, stripe_at, holdings_at, new_state}
use Rattle.mc_core.specs.run.Silent.{after_change}
use Rattle.mc_core.specs.run.Items.{chunk_of_key, new_reference}
use Rattle.mc_core.specs.run.Run.{after_step}

-- a word that a hand found
pub data SeenWord : Type 0 where
  header : ChunkId → Head → SeenWord
  slabs_word : ℕ → SeenWord
  stripe_word : ℕ → ℕ → SeenWord

-- a stamp, and the words that a hand stored with it
pub record StoredItem : Type 0 where
  pub stamp : ℕ
  pub words : List ℕ

-- the item that a chunk had with this issue number, and for how many words the chunk had room
pub record KnownItem : Type 0 where
  pub chunk : ChunkId
  pub issue : ℕ
  pub room : ℕ
  pub words : List ℕ

-- some hand knows an item with this property
abbrev pub IsKnownToSome : List (List KnownItem) → (KnownItem → Type 0) → Type 0
IsKnownToSome known P = (hand : ℕ) × (k : KnownItem) × Contains (slice_index_or known hand []) k × P k

-- holds of a stripe's lock: its value as it was taken last, and as it was given back last; none before the first time
pub record StripeHold : Type 0 where
  pub stripe : ℕ
  pub found : Option ReadyStripe
  pub left : Option ReadyStripe

-- a hand's holds of locks. For the slabs lock: how the last hold found and left pages and lists, and how many holds there were. For stripes
-- a list, in which the first entry of a stripe is its last hold
pub record Hold : Type 0 where
  pub found : SlabState
  pub left : SlabState
  pub count : ℕ
  pub stripes : List StripeHold

-- the calls of one number, a list for each stripe
pub record Own : Type 0 where
  pub number : ℕ
  pub calls : List (List Call)

-- for each hand, six rows: the words that its looks found; its holds of locks; its numbers with their calls; the history of each stripe
-- that it saw; what it stored; and the items that it ever held
pub record Past : Type 0 where
  pub seen_words : List (List SeenWord)
  pub holds : List Hold
  pub mine : List (List Own)
  pub seen : List (List (List Call))
  pub stored : List (List StoredItem)
  pub known : List (List KnownItem)

-- a run's state with what the hands know
pub record Moment : Type 0 where
  pub state : State
  pub past : Past

module _ {X : Type 0} where
  -- the rows, where these entries are behind all others in the row of the hand
  abbrev pub with_more : List (List X) → ℕ → List X → List (List X)
  with_more rows hand more = slice_set rows hand (slice_index_or rows hand [] ++ more)

-- the word that a step finds by a look; nothing where the step is no look
abbrev pub seen_words_of : State → Step → List SeenWord
seen_words_of state MissSlabs = slabs_word state.slabs_lock ∷ []
seen_words_of state (MissStripe stripe) = stripe_word stripe (slice_index state.stripe_locks stripe) ∷ []
seen_words_of state (step.Head chunk) = header chunk (head_at state chunk) ∷ []
seen_words_of state other = []

-- the last hold of this stripe; where there was none, a hold that found and left nothing
abbrev pub last_of : ℕ → List StripeHold → StripeHold
last_of stripe [] = record { stripe = stripe; found = None; left = None }
last_of stripe (one ∷ others) = if one.stripe == stripe then one else last_of stripe others

-- the holds after the hand took this stripe, which had this value
abbrev pub begin_hold : ℕ → ReadyStripe → Hold → Hold
begin_hold stripe value hold = record hold { stripes = record { stripe = stripe; found = Some value; left = (last_of stripe hold.stripes).left } ∷ hold.stripes }

-- the holds after the hand gave this stripe back with this value
abbrev pub end_hold : ℕ → ReadyStripe → Hold → Hold
end_hold stripe value hold = record hold { stripes = record { stripe = stripe; found = (last_of stripe hold.stripes).found; left = Some value } ∷ hold.stripes }

-- the hand's holds after its step: a hold begins where the hand takes a lock, and ends where it gives the lock back
abbrev pub hold_after : State → Step → Hold → Hold
hold_after state TakeSlabs hold = record hold { found = state.slabs; count = hold.count + 1 }
hold_after state GiveSlabs hold = record hold { left = state.slabs }
hold_after state (TakeStripe stripe) hold = begin_hold stripe (stripe_at state stripe) hold
hold_after state (GiveStripe stripe) hold = end_hold stripe (stripe_at state stripe) hold
hold_after state other hold = hold

-- the item's stamp and words; nothing where the item was rescued
abbrev pub stored_item_of : Kind → Words → List StoredItem
stored_item_of (Fresh (Rescue old item) own) words = []
stored_item_of kind words = record { stamp = stamp_in words; words = numbers_of_known (words_of_item words) } ∷ []

-- what the link of this holding stores: nothing where the item is rescued, or where there is no holding
abbrev pub item_stored_by_link : Option Holding → List StoredItem
item_stored_by_link None = []
item_stored_by_link (Some holding) = stored_item_of holding.kind (holding_words holding)

-- what a step stores: a link the words of its holding, and any other step nothing
abbrev pub items_stored_by_step : State → ℕ → Step → List StoredItem
items_stored_by_step state hand (Link chunk) = item_stored_by_link (holding_of chunk (holdings_at state hand))
items_stored_by_step state hand other = []

-- what is known by a reference: its chunk, issue and item, and for how many words the chunk has room
abbrev pub known_by : ℕ → Holding → KnownItem
known_by room holding = record { chunk = holding.chunk; issue = holding.issue; room = room; words = item_of holding }

-- what is known once this holding is linked: its item, without words of the chunk behind it; nothing for none
abbrev pub known_of_holding : ℕ → Option Holding → List KnownItem
known_of_holding room None = []
known_of_holding room (Some holding) = record { chunk = holding.chunk; issue = holding.issue; room = room; words = numbers_of_known (words_of_item (holding_words holding)) } ∷ []

-- what is known by a reference to the chunk to which a key leads; nothing where it leads nowhere
abbrev pub known_of_place : State → Option (ChunkId × ℕ) → List KnownItem
known_of_place state None = []
known_of_place state (Some place) = known_by (chunk_room state place.0) (new_reference state place.0) ∷ []

-- what the hand knows by its step: the item to which it gets a reference, by a link, a key or a hint; by any other step nothing
abbrev pub known_of : State → ℕ → Step → List KnownItem
known_of state hand (Link chunk) = known_of_holding (chunk_room state chunk) (holding_of chunk (holdings_at state hand))
known_of state hand (Refer key) = known_of_place state (chunk_of_key state key)
known_of state hand (Again chunk issue) = known_by (chunk_room state chunk) (new_reference state chunk) ∷ []
known_of state hand other = []

-- all calls of the stripe so far, recorded or not, the oldest first
abbrev pub history_at : State → ℕ → List Call
history_at state stripe = (stripe_at state stripe).state.history

-- the calls that came into a stripe's history
abbrev pub new_calls : State → State → ℕ → List Call
new_calls before now stripe = drop (length (history_at before stripe)) (history_at now stripe)

-- the lists of calls of the stripes from this place on, each with the new calls of its stripe at the end
abbrev pub calls_with_new : State → State → ℕ → List (List Call) → List (List Call)
calls_with_new before now place [] = []
calls_with_new before now place (calls ∷ rows) = (calls ++ new_calls before now place) ∷ calls_with_new before now (place + 1) rows

-- a number's own calls, with those that came in, where it is the number of the hand that made them
abbrev pub own_after : State → State → Option ℕ → Own → Own
own_after before now None own = own
own_after before now (Some number) own = if own.number == number then record own { calls = calls_with_new before now 0 own.calls } else own

-- the histories that the hand saw, after its step: it sees that of a stripe as it takes or gives its lock
abbrev pub seen_after : State → Step → List (List Call) → List (List Call)
seen_after state (TakeStripe stripe) seen = slice_set seen stripe (history_at state stripe)
seen_after state (GiveStripe stripe) seen = slice_set seen stripe (history_at state stripe)
seen_after state other seen = seen

-- the longer of two histories, the first where they are as long
abbrev pub longer : List Call → List Call → List Call
longer a b = if nat_le (length b) (length a) then a else b

-- stripe by stripe the longer of two histories; of a stripe that one row alone has, the history there
abbrev pub longer_each : List (List Call) → List (List Call) → List (List Call)
longer_each [] ys = ys
longer_each (x ∷ xs) [] = x ∷ xs
longer_each (x ∷ xs) (y ∷ ys) = longer x y ∷ longer_each xs ys

-- pages and lists of no class, in place of those of a hold that never was
abbrev pub no_slabs : SlabState
no_slabs = fresh_slabs (record { page = 0; limit = 0; sizes = [] })

-- the holds of a hand that never had a lock, or is gone: one constant, whatever the classes are
abbrev pub no_hold : Hold
no_hold = record { found = no_slabs; left = no_slabs; count = 0; stripes = [] }

-- the first hand has the numbers, calls, stored words and items of both, and saw of each history the longer that either saw. The second
-- knows nothing any more
abbrev pub past_after_join : Past → ℕ → ℕ → Past
past_after_join past kept spent = record {
  seen_words = slice_set past.seen_words spent [];
  holds = slice_set past.holds spent no_hold;
  mine = slice_set (with_more past.mine kept (slice_index_or past.mine spent [])) spent [];
  seen = slice_set (slice_set past.seen kept (longer_each (slice_index_or past.seen kept []) (slice_index_or past.seen spent []))) spent [];
  stored = slice_set (with_more past.stored kept (slice_index_or past.stored spent [])) spent [];
  known = slice_set (with_more past.known kept (slice_index_or past.known spent [])) spent [];
}

-- the calls that came into histories are added to the hand's own
abbrev pub with_calls : State → State → Past → ℕ → Past
with_calls before now past hand =
    record past { mine = slice_set past.mine hand (map (own_after before now (number_at before hand)) (slice_index_or past.mine hand [])) }

-- what one hand knows: its row of each column
pub record Knowledge : Type 0 where
  pub seen_words : List SeenWord
  pub hold : Hold
  pub mine : List Own
  pub seen : List (List Call)
  pub stored : List StoredItem
  pub known : List KnownItem

-- what this hand knows; nothing where there is no such hand
abbrev pub knowledge_at : Past → ℕ → Knowledge
knowledge_at past hand = record {
  seen_words = slice_index_or past.seen_words hand [];
  hold = slice_index_or past.holds hand no_hold;
  mine = slice_index_or past.mine hand [];
  seen = slice_index_or past.seen hand [];
  stored = slice_index_or past.stored hand [];
  known = slice_index_or past.known hand [];
}

-- the past where this hand knows this, and each other hand what it knew
abbrev pub with_knowledge : Past → ℕ → Knowledge → Past
with_knowledge past hand knows = record {
  seen_words = slice_set past.seen_words hand knows.seen_words;
  holds = slice_set past.holds hand knows.hold;
  mine = slice_set past.mine hand knows.mine;
  seen = slice_set past.seen hand knows.seen;
  stored = slice_set past.stored hand knows.stored;
  known = slice_set past.known hand knows.known;
}

-- the hand's own calls, with those that came in from the one state to the other
abbrev pub own_calls_after : State → State → ℕ → List Own → List Own
own_calls_after before now hand mine = map (own_after before now (number_at before hand)) mine

-- what the stepping hand knows after the step, from what it knew and from the states before and after
abbrev pub knowledge_after : State → State → ℕ → Step → Knowledge → Knowledge
knowledge_after before now hand step knows = record {
  seen_words = knows.seen_words ++ seen_words_of before step;
  hold = hold_after before step knows.hold;
  mine = own_calls_after before now hand knows.mine;
  seen = seen_after before step knows.seen;
  stored = knows.stored ++ items_stored_by_step before hand step;
  known = knows.known ++ known_of before hand step;
}

-- the stepping hand alone learns
abbrev pub learned_alone : State → State → Past → ℕ → Step → Past
learned_alone before now past hand step = with_knowledge past hand (knowledge_after before now hand step (knowledge_at past hand))

-- what the hands know after a step
abbrev pub past_after_step : State → State → Past → ℕ → Step → Past
past_after_step before now past hand (Join kept spent) = past_after_join past kept spent
past_after_step before now past hand step = learned_alone before now past hand step

-- the moment after a change of a value behind a lock
abbrev pub moment_changed : Moment → ℕ → Change → Moment
moment_changed moment hand change =
    record { state = after_change moment.state hand change; past = with_calls moment.state (after_change moment.state hand change) moment.past hand }

-- the moment after these changes by one hand, one after another
abbrev pub moment_changes : Moment → ℕ → List Change → Moment
moment_changes moment hand [] = moment
moment_changes moment hand (change ∷ changes) = moment_changes (moment_changed moment hand change) hand changes

-- the moment after a step
abbrev pub moment_stepped : Moment → ℕ → Step → Moment
moment_stepped moment hand step =
    record { state = after_step moment.state hand step; past = past_after_step moment.state (after_step moment.state hand step) moment.past hand step }

-- the moment after an event: the changes before it, and then its step
abbrev pub moment_after : Moment → Event → Moment
moment_after moment event = moment_stepped (moment_changes moment event.hand event.before) event.hand event.step

-- the past at the beginning: no hand saw or stored anything, and each has its number
abbrev pub no_past : ℕ → ℕ → Past
no_past stripes hands = record {
  seen_words = replicate hands [];
  holds = replicate hands no_hold;
  mine = map (λ number. record { number = number; calls = replicate stripes [] } ∷ []) (range_with_len 0 hands);
  seen = replicate hands (replicate stripes []);
  stored = replicate hands [];
  known = replicate hands [];
}

-- the moment in which nothing was done yet
abbrev pub first_moment : Classes → ℕ → ℕ → ℕ → Moment
first_moment table stripes hands start = record { state = new_state table stripes hands start; past = no_past stripes hands }
