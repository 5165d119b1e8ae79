-- Worked runs of events, which the prover plays.
use Rattle.std.specs.Prelude.{ℕ, ◌*◌, Bool, List, [], ◌∷◌, ◌++◌, map, Option, Some, Result, Ok, Err}
use Rattle.std.specs.List.{range_with_len}
use Rattle.std.specs.Option.{option_map}
use Rattle.mc_classes.specs.Classes.{Classes}
use Rattle.mc_pages.specs.declared.ids.ChunkId.{ChunkId}
use Rattle.mc_pages.specs.declared.ledger.Entry.{Entry}
use Rattle.mc_pages.specs.Base.{ledger_tail}
use Rattle.mc_core.specs.declared.event.Event.{Event}
use Rattle.mc_core.specs.declared.event.Step.{Step}
use Rattle.mc_core.specs.declared.event.Step.TheVariants.{TakeSlabs, TakeStripe, GiveSlabs, GiveStripe, Head, Pop, PopOff, Fill, Link, Unlink, Release, Discard, Condemn, PutBack, Clear, Cut}
use Rattle.mc_core.specs.declared.event.Change.{Change}
use Rattle.mc_core.specs.declared.event.Change.TheVariants.{Grow, BeginMove, FinishMove, OfStripe}
use Rattle.mc_core.specs.declared.event.StripeChange.TheVariants.{Reserve}
use Rattle.mc_core.specs.model.State.{State, new_state}
use Rattle.mc_core.specs.past.Past.{Moment, first_moment, knowledge_at, last_of, moment_after}
use Rattle.mc_core.specs.run.Run.{state_after_all}

-- four pages of 1024 bytes, and classes of 48, 96, 192 and 512 bytes
abbrev pub four_classes : Classes
four_classes = record { page = 1024; limit = 4096; sizes = 48 ∷ 96 ∷ 192 ∷ 512 ∷ [] }

-- a step of hand 0
abbrev pub hand_event : List Change → Step → Event
hand_event before step = record { hand = 0; before = before; step = step }

-- n events that cut chunks of page 0, from this index on
abbrev pub cuts_from : ℕ → ℕ → List Event
cuts_from first count = map (λ index. hand_event [] (Cut 0 index)) (range_with_len first count)

-- class 1 gets page 0, of which the first chunk and n more are cut
abbrev pub growth_events : ℕ → List Event
growth_events more = hand_event [] TakeSlabs ∷ hand_event (Grow 1 ∷ []) (Cut 0 0) ∷ cuts_from 1 more ++ hand_event [] GiveSlabs ∷ []

-- the ledger of a run that ends well, or the place of the first event that isn't allowed
abbrev pub ledger_of : Result State ℕ → Result (List Entry) ℕ
ledger_of (Ok state) = Ok state.slabs.ledger
ledger_of (Err place) = Err place

-- the ledger after one hand made these events over the four classes, or the place of the first event that isn't allowed
abbrev pub worked_ledger : List Event → Result (List Entry) ℕ
worked_ledger events = ledger_of (state_after_all (new_state four_classes 4 1 0) events)

-- the ledger after a chunk of class 1 was handed out twice over the four classes, where issue numbers count on from this one; or the place of the
-- first event that isn't allowed
abbrev pub pops_from : ℕ → Result (List Entry) ℕ
pops_from start = ledger_of (state_after_all (new_state four_classes 4 1 start) (growth_events 20 ++ hand_event [] TakeSlabs ∷ hand_event [] (Pop 1) ∷ hand_event [] (Discard (record { page = 0; index = 20 })) ∷
    hand_event [] (PutBack (record { page = 0; index = 20 })) ∷ hand_event [] (Pop 1) ∷ []))

-- classes of n pages of 64 bytes, with one class of 32 bytes
abbrev pub one_class : ℕ → Classes
one_class pages = record { page = 64; limit = pages * 64; sizes = 32 ∷ [] }

-- the ledger after one hand took both locks of an arena of n pages and one stripe, and these events; or the place of the first event that
-- isn't allowed
abbrev pub played_on : ℕ → List Event → Result (List Entry) ℕ
played_on pages events = ledger_of (state_after_all (new_state (one_class pages) 1 1 0) (hand_event [] TakeSlabs ∷ hand_event [] (TakeStripe 0) ∷ events))

-- the chunk of this page at this index
abbrev pub chunk_at : ℕ → ℕ → ChunkId
chunk_at page index = record { page = page; index = index }

-- class 1 gets the page, and its two chunks are cut
abbrev pub page_events : ℕ → List Event
page_events page = hand_event (Grow 1 ∷ []) (Cut page 0) ∷ hand_event [] (Cut page 1) ∷ []

-- a fresh chunk is filled with a key, the stamp of the same number, and one word
abbrev pub fills_with : ChunkId → ℕ → List Event
fills_with chunk key = hand_event [] (Fill chunk 0 key) ∷ hand_event [] (Fill chunk 1 key) ∷ hand_event [] (Fill chunk 2 1) ∷ hand_event [] (Fill chunk 3 7) ∷ []

-- the chunk is filled, linked and let go
abbrev pub fill_events : ChunkId → ℕ → List Event
fill_events chunk key = fills_with chunk key ++ hand_event (OfStripe 0 Reserve ∷ []) (Link chunk) ∷ hand_event [] (Release chunk) ∷ []

-- the chunk, which is the next free one, is handed out, filled, linked and let go
abbrev pub store_events : ChunkId → ℕ → List Event
store_events chunk key = hand_event [] (Pop 1) ∷ fill_events chunk key

-- a page whose two chunks have items
abbrev pub full_page : List Event
full_page = page_events 0 ++ store_events (chunk_at 0 1) 1 ++ store_events (chunk_at 0 0) 2

-- the item of a chunk is taken away
abbrev pub takes_away : ChunkId → List Event
takes_away chunk = hand_event (OfStripe 0 Reserve ∷ []) (Condemn chunk) ∷ []

-- the hand looks at both chunks of a page
abbrev pub look_events : ℕ → List Event
look_events page = hand_event [] (Head (chunk_at page 1)) ∷ hand_event [] (Head (chunk_at page 0)) ∷ []

-- two pages, of whose four chunks one has an item: chunk 1 of page 0
abbrev pub one_of_four : List Event
one_of_four = page_events 0 ++ store_events (chunk_at 0 1) 1 ++ page_events 1

-- two pages, of whose four chunks all have items but chunk 0 of page 0, which is free
abbrev pub three_of_four : List Event
three_of_four = one_of_four ++ store_events (chunk_at 1 1) 2 ++ store_events (chunk_at 1 0) 3

-- page 0 begins to move to the pool, and its chunk 1 is looked at
abbrev pub begins_move : List Event
begins_move = hand_event (BeginMove (Some 1) 0 ∷ []) (Head (chunk_at 0 1)) ∷ []

-- page 0 begins to move to the pool, and a chunk is handed out for a copy of the item in its chunk 1
abbrev pub begins_rescue : List Event
begins_rescue = hand_event (BeginMove (Some 1) 0 ∷ []) (PopOff (chunk_at 0 1)) ∷ []

-- the item in chunk 1 of page 0 is taken to chunk 1 of page 1, and both chunks of page 0 are cleared
abbrev pub rescue_events : List Event
rescue_events =
    fills_with (chunk_at 1 1) 1 ++ takes_away (chunk_at 0 1) ++ hand_event [] (Link (chunk_at 1 1)) ∷ hand_event [] (Release (chunk_at 1 1)) ∷ hand_event [] (Clear (chunk_at 0 1)) ∷ hand_event [] (Clear (chunk_at 0 0)) ∷ []

-- the move ends, and the locks are given back
abbrev pub end_events : List Event
end_events = hand_event (FinishMove ∷ []) GiveSlabs ∷ hand_event [] (GiveStripe 0) ∷ []

-- the item is deleted, and a chunk is handed out for its copy; its page leaves the class and comes again, and its chunk has a new item
abbrev pub comes_again : List Event
comes_again =
    hand_event (OfStripe 0 Reserve ∷ []) (Unlink 1) ∷ begins_rescue ++ hand_event [] (Clear (chunk_at 0 1)) ∷ hand_event [] (Clear (chunk_at 0 0)) ∷ hand_event (FinishMove ∷ Grow 1 ∷ []) (Cut 0 0) ∷ hand_event [] (Cut 0 1) ∷ store_events (chunk_at 0 1) 2

-- classes of n pages of 64 bytes within the limit, with one class of 32 bytes and one of 64
abbrev pub two_classes : ℕ → Classes
two_classes pages = record { page = 64; limit = pages * 64; sizes = 32 ∷ 64 ∷ [] }

-- the state after one hand took the slabs lock of an arena of n pages within the limit and two classes, and these events; or the place of
-- the first that isn't allowed
abbrev pub state_left_by : ℕ → List Event → Result State ℕ
state_left_by pages events = state_after_all (new_state (two_classes pages) 1 1 0) (hand_event [] TakeSlabs ∷ events)

-- class 1 gets page 0, which is cut
abbrev pub first_page_events : List Event
first_page_events = hand_event (Grow 1 ∷ []) (Cut 0 0) ∷ hand_event [] (Cut 0 1) ∷ []

-- class 2 gets this page, which is cut
abbrev pub gets_whole : ℕ → List Event
gets_whole page = hand_event (Grow 2 ∷ []) (Cut page 0) ∷ []

-- the entries that are recorded after a run that ends well, or the place of the first event that isn't allowed
abbrev pub recorded_of : Result State ℕ → Result (List Entry) ℕ
recorded_of (Ok state) = Ok (ledger_tail state.slabs)
recorded_of (Err place) = Err place

-- what the hands know behind these events
abbrev pub moment_behind : Moment → List Event → Moment
moment_behind moment [] = moment
moment_behind moment (event ∷ events) = moment_behind (moment_after moment event) events

-- after these events in an arena of two stripes: whether this stripe had room for a call, as hand 0 last took it and last gave it back
abbrev pub room_in_hold : ℕ → List Event → Option Bool × Option Bool
room_in_hold stripe events =
    let hold = last_of stripe (knowledge_at (moment_behind (first_moment (one_class 1) 2 1 0) events).past 0).hold.stripes in
    (option_map (λ value. value.ready) hold.found, option_map (λ value. value.ready) hold.left)

-- room is made in stripe 1, under its lock
abbrev pub makes_room : List Event
makes_room = hand_event [] (TakeStripe 1) ∷ hand_event (OfStripe 1 Reserve ∷ []) (GiveStripe 1) ∷ []
