-- How the oldest chunk of a class is visited: its item is deleted, or passed over, or the chunk is dead and put back.
use Rattle.std.specs.Prelude.{◌≡◌, ◌≢◌, ◌⊎◌, ℕ, ◌+◌, ◌%◌, ◌≤◌, true, false, List, [], ◌∷◌, length, slice_get, map, Some, None}
use Rattle.mc_pages.specs.declared.ids.ChunkId.{ChunkId}
use Rattle.mc_pages.specs.Changes.{after_back, after_evicted}
use Rattle.mc_pages.specs.SlabState.{SlabState, class_at}
use Rattle.mc_core.specs.declared.event.Change.TheVariants as change
use Rattle.mc_core.specs.declared.event.Step.TheVariants as step
use Rattle.mc_core.specs.declared.head.Head.{Head}
use Rattle.mc_core.specs.model.Head.{is_dead}
use Rattle.mc_core.specs.past.Past.{Own}
use Rattle.mc_core.specs.run.Evictions.{is_linked_unheld}
use Rattle.mc_stripe.specs.declared.history.Call.TheVariants as call
use Rattle.mc_stripe.specs.StripeState.{ReadyStripe, chunk_and_stamp}
use Rattle.mc_words.specs.hand.View.{View}
use Rattle.mc_words.specs.hand.Views.{head_seen, slabs_changed, stripe_given, stripe_taken}
use Rattle.mc_words.specs.item.Calls.{with_own_call}
use Rattle.mc_words.specs.item.Removal.{SeesHeld, key_read, key_seen}
use Rattle.mc_words.specs.lock.Doing.{SlabsDoing}
use Rattle.mc_words.specs.lock.Lent.{BeginsWithSeen, IsLentStripe}
use Rattle.mc_words.specs.page.Owner.{PutsBack, SeesOther}
use Rattle.mc_words.specs.rule.Happens.{Happens}
use Rattle.mc_items.specs.declared.visiting.Visit.{Visit}
use Rattle.mc_items.specs.declared.visiting.Visit.TheVariants.{Passed, Dead, Evicted, EvictedHeld}
use Rattle.mc_items.specs.Calls.{Bumps, Deletes}
use Rattle.mc_items.specs.Supplying.{LacksCall, MissesItem, ReachesItem}

-- how many chunks are visited at most
abbrev pub room_tries : ℕ
room_tries = 16

-- how many items are evicted at most
abbrev pub room_items : ℕ
room_items = 4

-- the key of the chunk's item, as the hand read it, led to the chunk, and was deleted
pub record Unlinks (number stripe : ℕ) (chunk : ChunkId) (value : ReadyStripe) (view : View) (left : ReadyStripe) (now : View) : Type 0 where
  pub key : ℕ
  pub is_key : key_read view chunk ≡ Some key
  pub stamp : ℕ
  pub led : chunk_and_stamp value.state key ≡ Some (chunk, stamp)
  pub deletes : Deletes number stripe key true value view left now

-- the chunk's item was seen linked and unheld, its key led to it in the key's stripe, and the key was deleted there
abbrev pub UnlinksAtOnce : ℕ → ChunkId → View → View → Type 0
UnlinksAtOnce number chunk view now = ReachesItem number chunk (λ number stripe. Unlinks number stripe chunk) view now

-- the chunk's item was seen linked and unheld, and its key was read
pub record SeesKey (chunk : ChunkId) (view now : View) : Type 0 where
  pub head : Head
  pub unheld : is_linked_unheld head ≡ true
  pub key : ℕ
  pub looks : Happens view [] (step.Head chunk) (head_seen chunk head view)
  pub reads : Happens (head_seen chunk head view) [] (step.WordHeld chunk 0) now
  pub is : now ≡ key_seen chunk key (head_seen chunk head view)

-- the key doesn't lead to the chunk
abbrev pub LeadsElsewhere : ReadyStripe → ℕ → ChunkId → Type 0
LeadsElsewhere value key chunk = (stamp : ℕ) → chunk_and_stamp value.state key ≢ Some (chunk, stamp)

-- the chunk's item was seen linked and unheld, and its key's stripe was taken at once. The key didn't lead to the chunk any more, and the
-- lock was given back as it was
pub record FindsNewer (chunk : ChunkId) (view now : View) : Type 0 where
  pub head : Head
  pub unheld : is_linked_unheld head ≡ true
  pub key : ℕ
  pub value : ReadyStripe
  pub looks : Happens view [] (step.Head chunk) (head_seen chunk head view)
  pub reads : Happens (head_seen chunk head view) [] (step.WordHeld chunk 0) (key_seen chunk key (head_seen chunk head view))
  pub taken : View
  pub takes : Happens (key_seen chunk key (head_seen chunk head view)) [] (step.TakeStripe (key % view.setup.config.stripes)) taken
  pub is_taken : taken ≡ stripe_taken (key % view.setup.config.stripes) value (key_seen chunk key (head_seen chunk head view))
  pub lent : IsLentStripe taken (key % view.setup.config.stripes) value
  pub begins : BeginsWithSeen view (key % view.setup.config.stripes) value
  pub elsewhere : LeadsElsewhere value key chunk
  pub given : now ≡ stripe_given (key % view.setup.config.stripes) value taken

-- why the chunk's item wasn't deleted: it was seen unlinked or held, or its key was marked, or its key's stripe was another hand's, or
-- its key led to another chunk by then. A mark is no part of the arena, so that only the read of the key is stated
abbrev pub SparesItem : ChunkId → View → View → Type 0
SparesItem chunk view now = SeesHeld view chunk now ⊎ SeesKey chunk view now ⊎ MissesItem chunk view now ⊎ FindsNewer chunk view now

-- an item of the class was counted as evicted
pub record CountsEviction (number class : ℕ) (slabs : SlabState) (view now : View) : Type 0 where
  pub is : now ≡ slabs_changed slabs (change.Evicted class) (number + 1) view
  pub happens : Happens view (change.Evicted class ∷ []) step.MissSlabs now

-- the chunk was dead, and was put back
abbrev pub FreesDead : ChunkId → SlabsDoing
FreesDead chunk view slabs now left = PutsBack view slabs chunk now × (left ≡ after_back slabs chunk)

-- the chunk was seen, and it wasn't dead
abbrev pub SeesAlive : ChunkId → View → View → Type 0
SeesAlive chunk view now = SeesOther view (Some chunk) (λ head. is_dead head ≡ false) now

-- the chunk wasn't dead, and became the newest of its class
abbrev pub MakesNewest : ℕ → ChunkId → SlabsDoing
MakesNewest number chunk view slabs now left = (seen : View) × SeesAlive chunk view seen × Bumps number chunk seen slabs now left

-- what was done with a chunk whose item stayed, by the kind of visit
abbrev pub PutsBackOrPasses : ℕ → Visit → ChunkId → SlabsDoing
PutsBackOrPasses number Passed chunk view slabs now left = MakesNewest number chunk view slabs now left
PutsBackOrPasses number Dead chunk view slabs now left = FreesDead chunk view slabs now left
PutsBackOrPasses number Evicted chunk view slabs now left = ⊥
PutsBackOrPasses number EvictedHeld chunk view slabs now left = ⊥

-- an eviction was counted; and the chunk was dead, and was put back
abbrev pub CountsAndFrees : ℕ → ℕ → ChunkId → SlabsDoing
CountsAndFrees number class chunk view slabs now left =
    (counted : View) × CountsEviction number class slabs view counted × FreesDead chunk counted (after_evicted slabs class) now left

-- an eviction was counted; but a reader had got the item meanwhile, and the chunk wasn't dead yet
abbrev pub CountsAndLeaves : ℕ → ℕ → ChunkId → SlabsDoing
CountsAndLeaves number class chunk view slabs now left =
    (counted : View) × CountsEviction number class slabs view counted × SeesAlive chunk counted now × (left ≡ after_evicted slabs class)

-- what was done with a chunk whose item was deleted, by the kind of visit
abbrev pub EndsUnlinked : ℕ → ℕ → Visit → ChunkId → SlabsDoing
EndsUnlinked number class Passed chunk view slabs now left = ⊥
EndsUnlinked number class Dead chunk view slabs now left = ⊥
EndsUnlinked number class Evicted chunk view slabs now left = CountsAndFrees number class chunk view slabs now left
EndsUnlinked number class EvictedHeld chunk view slabs now left = CountsAndLeaves number class chunk view slabs now left

-- the chunk's item was deleted, and that was counted as an eviction; or its item stayed, and the chunk was put back or became the newest
abbrev pub VisitsChunk : ℕ → ℕ → Visit → ChunkId → SlabsDoing
VisitsChunk number class visit chunk view slabs now left =
    (tried : View) × ((UnlinksAtOnce number chunk view tried × EndsUnlinked number class visit chunk tried slabs now left)
    ⊎ (SparesItem chunk view tried × PutsBackOrPasses number visit chunk tried slabs now left))

-- the first chunk of the class's hand-out order, which is the oldest, was visited
pub record VisitsFirst (number class : ℕ) (visit : Visit) (view : View) (slabs : SlabState) (now : View) (left : SlabState) : Type 0 where
  pub chunk : ChunkId
  pub first : slice_get (class_at slabs class).order 0 ≡ Some chunk
  pub visits : VisitsChunk number class visit chunk view slabs now left

-- the stripe of the key of the class's oldest chunk had no room for a call, and pages and lists are as they were
pub record LacksCallAtFirst (class : ℕ) (view : View) (slabs : SlabState) (now : View) (left : SlabState) : Type 0 where
  pub chunk : ChunkId
  pub first : slice_get (class_at slabs class).order 0 ≡ Some chunk
  pub lacks : LacksCall chunk view now
  pub same : left ≡ slabs

-- these visits were made, the last one of the list first: each of the chunk that was the first of its class's order then
abbrev pub VisitsEach : ℕ → ℕ → List Visit → SlabsDoing
VisitsEach number class [] view slabs now left = (now ≡ view) × (left ≡ slabs)
VisitsEach number class (visit ∷ visits) view slabs now left =
    (before : View) × (between : SlabState) × VisitsEach number class visits view slabs before between × VisitsFirst number class visit before between now left

-- how many items a visit evicted
abbrev pub evicted_by : Visit → ℕ
evicted_by Passed = 0
evicted_by Dead = 0
evicted_by Evicted = 1
evicted_by EvictedHeld = 1

-- how many chunks a visit put back
abbrev pub freed_by : Visit → ℕ
freed_by Passed = 0
freed_by Dead = 1
freed_by Evicted = 1
freed_by EvictedHeld = 0

-- how many items these visits evicted
abbrev pub evicted_count : List Visit → ℕ
evicted_count [] = 0
evicted_count (visit ∷ visits) = evicted_count visits + evicted_by visit

-- how many chunks these visits put back
abbrev pub freed_count : List Visit → ℕ
freed_count [] = 0
freed_count (visit ∷ visits) = freed_count visits + freed_by visit

-- why no more visits were made: there were as many as there may be, or as many items were evicted, or the class has no chunk handed out
abbrev pub EndsVisits : ℕ → List Visit → SlabState → Type 0
EndsVisits class visits left =
    (length visits ≡ room_tries) ⊎ (evicted_count visits ≡ room_items) ⊎ (slice_get (class_at left class).order 0 ≡ None)

-- the oldest chunks of the class were visited, until there was a reason to end; n items were evicted, and n chunks put back
pub record VisitsOldest (number class evicted freed : ℕ) (view : View) (slabs : SlabState) (now : View) (left : SlabState) : Type 0 where
  pub visits : List Visit
  pub each : VisitsEach number class visits view slabs now left
  pub within_limit : length visits ≤ room_tries
  pub evictions_within_limit : evicted_count visits ≤ room_items
  pub ends : EndsVisits class visits left
  pub evicted_is : evicted_count visits ≡ evicted
  pub freed_is : freed_count visits ≡ freed

-- some of the oldest chunks of the class were visited, and then the stripe of the next one's key had no room for a call
pub record LacksCallAtOldest (number class : ℕ) (view : View) (slabs : SlabState) (now : View) (left : SlabState) : Type 0 where
  pub visits : List Visit
  pub visited : View
  pub between : SlabState
  pub each : VisitsEach number class visits view slabs visited between
  pub lacks : LacksCallAtFirst class visited between now left

-- the number's own calls, with deletes of these keys, each of them there, in these stripes
abbrev pub with_deletes : ℕ → List (ℕ × ℕ) → List Own → List Own
with_deletes number [] calls = calls
with_deletes number (place ∷ places) calls = map (with_own_call number place.0 (call.Delete number place.1 true)) (with_deletes number places calls)

-- the hand's own calls got n deletes of keys that were there, and no other call
pub record RecordsDeletes (number count : ℕ) (view now : View) : Type 0 where
  pub places : List (ℕ × ℕ)
  pub as_many : length places ≡ count
  pub recorded : now.row.knows.mine ≡ with_deletes number places view.row.knows.mine
