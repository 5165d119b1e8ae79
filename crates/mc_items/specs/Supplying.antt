-- How a class comes to a chunk that is handed out.
use Rattle.std.specs.Prelude.{◌≡◌, ◌≢◌, ◌⊎◌, ℕ, ◌+◌, ◌%◌, ◌≤◌, true, is_some, [], ◌∷◌, ◌++◌, Some, None}
use Rattle.std.specs.List.{list_all}
use Rattle.mc_pages.specs.declared.ids.ChunkId.{ChunkId}
use Rattle.mc_pages.specs.Accounted.{first_chunks}
use Rattle.mc_pages.specs.Changes.{after_back, after_evicted, after_grow, after_pop, next_page}
use Rattle.mc_pages.specs.ClassState.{first_free}
use Rattle.mc_pages.specs.SlabState.{SlabState, class_at}
use Rattle.mc_core.specs.declared.event.Change.TheVariants as change
use Rattle.mc_core.specs.declared.event.Step.TheVariants as step
use Rattle.mc_core.specs.declared.head.Head.{Head}
use Rattle.mc_core.specs.run.Chunks.{most_issue}
use Rattle.mc_core.specs.run.Evictions.{is_linked_unheld}
use Rattle.mc_stripe.specs.StripeState.{ReadyStripe}
use Rattle.mc_core.specs.model.Looks.{is_found_alive}
use Rattle.mc_items.specs.Calls.{IsFull}
use Rattle.mc_words.specs.lock.Doing.{Doing, UsesRoomForCall}
use Rattle.mc_words.specs.hand.View.{View}
use Rattle.mc_words.specs.rule.Happens.{Happens}
use Rattle.mc_words.specs.page.Cuts.{CutsEach}
use Rattle.mc_words.specs.page.Owner.{PopsFirst, PutsBack, SeesOther}
use Rattle.mc_words.specs.chunk.Sweeps.{Recovers, Sweeps, with_seen}
use Rattle.mc_words.specs.item.Removal.{Condemns, FindsHeld, SeesHeld, key_seen}
use Rattle.mc_words.specs.lock.Lent.{BeginsWithSeen, IsLentStripe}
use Rattle.mc_words.specs.hand.Views.{fresh_holding, head_seen, slabs_changed, stripe_given, stripe_missed, stripe_taken, with_holdings}

-- the class has a free chunk, and nothing was done; or it has none, and dead chunks of it were put back
abbrev pub SweepsEmpty : ℕ → View → SlabState → View → SlabState → Type 0
SweepsEmpty class view slabs now left =
    ((is_some (first_free (class_at slabs class)) ≡ true) × (now ≡ view) × (left ≡ slabs))
    ⊎ ((first_free (class_at slabs class) ≡ None) × Recovers (class_at slabs class).order view slabs now left)

-- this chunk, the first free one of its class, was handed out; where the class had none free, its dead ones were put back before
pub record SuppliesFree (class : ℕ) (chunk : ChunkId) (view : View) (slabs : SlabState) (now : View) (left : SlabState) : Type 0 where
  pub swept : View
  pub between : SlabState
  pub sweeps : SweepsEmpty class view slabs swept between
  pub pops : PopsFirst swept between class chunk now
  pub left_is : left ≡ after_pop between class

-- the class's first free chunk was seen to be worn out; where none was free, dead ones were put back before
pub record FindsWorn (class : ℕ) (view : View) (slabs : SlabState) (now : View) (left : SlabState) : Type 0 where
  pub swept : View
  pub sweeps : SweepsEmpty class view slabs swept left
  pub worn : SeesOther swept (first_free (class_at left class)) (λ head. most_issue ≤ head.issue) now

-- the class has no free chunk, and none came by a sweep: each that it handed out was found alive
pub record FindsNoFree (class : ℕ) (view : View) (slabs : SlabState) (now : View) (left : SlabState) : Type 0 where
  pub empty : first_free (class_at slabs class) ≡ None
  pub sweeps : Sweeps (class_at slabs class).order view slabs now left
  pub still : first_free (class_at left class) ≡ None
  pub alive : list_all (is_found_alive now.row.looks) (class_at left class).order ≡ true

-- the hand got this chunk, with room for n words; otherwise it saw more, and has other pages and lists
abbrev pub GainsFresh : View → ChunkId → ℕ → View → Type 0
GainsFresh view chunk room now = (issue : ℕ) × (now ≡ with_holdings (view.row.holdings ++ fresh_holding chunk issue room ∷ []) (with_seen view now))

-- the class got the next page, and all its chunks were cut
pub record Grows (number class : ℕ) (view : View) (slabs : SlabState) (now : View) (left : SlabState) : Type 0 where
  pub page : ℕ
  pub is_next : next_page slabs class ≡ Some page
  pub grown : View
  pub is_grown : grown ≡ slabs_changed slabs (change.Grow class) (number + 1) view
  pub happens : Happens view (change.Grow class ∷ []) step.MissSlabs grown
  pub cuts : CutsEach (first_chunks page (class_at slabs class).per_page) grown (after_grow slabs class page) now left

-- the chunk was found unlinked or held, and the stripe wasn't changed
abbrev pub FindsItemHeld : ChunkId → Doing
FindsItemHeld chunk value view left now = FindsHeld view chunk now × (left ≡ value)

-- the chunk's item was seen linked and unheld, its key was read, the key's stripe was taken at once, and this was done there
pub record ReachesItem (number : ℕ) (chunk : ChunkId) (Does : ℕ → ℕ → Doing) (view now : View) : Type 0 where
  pub head : Head
  pub unheld : is_linked_unheld head ≡ true
  pub key : ℕ
  pub value : ReadyStripe
  pub looks : Happens view [] (step.Head chunk) (head_seen chunk head view)
  pub reads : Happens (head_seen chunk head view) [] (step.WordHeld chunk 0) (key_seen chunk key (head_seen chunk head view))
  pub taken : View
  pub takes : Happens (key_seen chunk key (head_seen chunk head view)) [] (step.TakeStripe (key % view.setup.config.stripes)) taken
  pub is_taken : taken ≡ stripe_taken (key % view.setup.config.stripes) value (key_seen chunk key (head_seen chunk head view))
  pub lent : IsLentStripe taken (key % view.setup.config.stripes) value
  pub begins : BeginsWithSeen view (key % view.setup.config.stripes) value
  pub done : UsesRoomForCall number (key % view.setup.config.stripes) value (Does number (key % view.setup.config.stripes)) taken now

-- the chunk's item was seen linked and unheld, its key's stripe was taken at once, and the item was taken away there
abbrev pub TakesAtOnce : ℕ → ChunkId → View → View → Type 0
TakesAtOnce number chunk view now = ReachesItem number chunk (λ number stripe. Condemns number stripe chunk) view now

-- the chunk's item was seen linked and unheld, but another hand had the lock of its key's stripe
pub record MissesItem (chunk : ChunkId) (view now : View) : Type 0 where
  pub head : Head
  pub unheld : is_linked_unheld head ≡ true
  pub key : ℕ
  pub word : ℕ
  pub busy : word ≢ 0
  pub looks : Happens view [] (step.Head chunk) (head_seen chunk head view)
  pub reads : Happens (head_seen chunk head view) [] (step.WordHeld chunk 0) (key_seen chunk key (head_seen chunk head view))
  pub misses : Happens (key_seen chunk key (head_seen chunk head view)) [] (step.MissStripe (key % view.setup.config.stripes)) now
  pub is : now ≡ stripe_missed (key % view.setup.config.stripes) word (key_seen chunk key (head_seen chunk head view))

-- why the chunk's item wasn't taken away: it was seen unlinked or held, or its key's stripe was another's, or it was held by then
abbrev pub PassesItem : ℕ → ChunkId → View → View → Type 0
PassesItem number chunk view now =
    SeesHeld view chunk now ⊎ MissesItem chunk view now ⊎ ReachesItem number chunk (λ number stripe. FindsItemHeld chunk) view now

-- the chunk's item was seen linked and unheld, and its key's stripe was taken at once. The stripe records calls and had no room for one
-- more, and the lock was given back as it was
pub record LacksCall (chunk : ChunkId) (view now : View) : Type 0 where
  pub head : Head
  pub unheld : is_linked_unheld head ≡ true
  pub key : ℕ
  pub value : ReadyStripe
  pub looks : Happens view [] (step.Head chunk) (head_seen chunk head view)
  pub reads : Happens (head_seen chunk head view) [] (step.WordHeld chunk 0) (key_seen chunk key (head_seen chunk head view))
  pub taken : View
  pub takes : Happens (key_seen chunk key (head_seen chunk head view)) [] (step.TakeStripe (key % view.setup.config.stripes)) taken
  pub is_taken : taken ≡ stripe_taken (key % view.setup.config.stripes) value (key_seen chunk key (head_seen chunk head view))
  pub lent : IsLentStripe taken (key % view.setup.config.stripes) value
  pub begins : BeginsWithSeen view (key % view.setup.config.stripes) value
  pub full : IsFull value
  pub given : now ≡ stripe_given (key % view.setup.config.stripes) value taken

-- the eviction was counted, and the chunk, which is dead, was put back
pub record FreesEvicted (number class : ℕ) (chunk : ChunkId) (view : View) (slabs : SlabState) (now : View) (left : SlabState) : Type 0 where
  pub counted : View
  pub is_counted : counted ≡ slabs_changed slabs (change.Evicted class) (number + 1) view
  pub happens : Happens view (change.Evicted class ∷ []) step.MissSlabs counted
  pub back : PutsBack counted (after_evicted slabs class) chunk now
  pub left_is : left ≡ after_back (after_evicted slabs class) chunk
