-- Sweeps: each chunk that a class handed out is looked at, and the dead ones are put back, oldest first.
use Rattle.std.specs.Prelude.{◌≡◌, ◌⊎◌, ℕ, ◌<◌, ◌≤◌, true, false, Bool, if◌then◌else◌, List, [], ◌∷◌, Some, Contains}
use Rattle.std.specs.List.{list_all}
use Rattle.mc_pages.specs.declared.ids.ChunkId.{ChunkId}
use Rattle.mc_pages.specs.Changes.{after_back}
use Rattle.mc_pages.specs.ClassState.{is_chunk}
use Rattle.mc_pages.specs.SlabState.{SlabState, class_of_chunk, class_of_page}
use Rattle.mc_core.specs.declared.event.Step.TheVariants as step
use Rattle.mc_core.specs.declared.head.Head.{Head}
use Rattle.mc_core.specs.model.Head.{is_dead}
use Rattle.mc_core.specs.model.Looks.{is_found_alive}
use Rattle.mc_core.specs.run.Silent.{is_among}
use Rattle.mc_words.specs.rule.Happens.{Happens}
use Rattle.mc_words.specs.hand.View.{View}
use Rattle.mc_words.specs.hand.Views.{head_seen}
use Rattle.mc_words.specs.page.Owner.{PutsBack, SeesOther}

-- the chunk was seen dead and put back, or seen alive
abbrev pub SweepsOne : ChunkId → View → SlabState → View → SlabState → Type 0
SweepsOne chunk view slabs now left =
    (PutsBack view slabs chunk now × (left ≡ after_back slabs chunk)) ⊎ (SeesOther view (Some chunk) (λ head. is_dead head ≡ false) now × (left ≡ slabs))

-- a chunk on a page of the class was seen dead and put back, or seen alive
abbrev pub SweepsOneOf : ℕ → View → SlabState → View → SlabState → Type 0
SweepsOneOf class view slabs now left = (chunk : ChunkId) × (class_of_page slabs chunk.page ≡ class) × SweepsOne chunk view slabs now left

-- each of these chunks was seen dead and put back, or seen alive, one after another
abbrev pub SweepsEach : List ChunkId → View → SlabState → View → SlabState → Type 0
SweepsEach [] view slabs now left = (now ≡ view) × (left ≡ slabs)
SweepsEach (chunk ∷ chunks) view slabs now left = (next : View) × (between : SlabState) × SweepsOne chunk view slabs next between × SweepsEach chunks next between now left

-- the chunk's header was looked at, whatever it was
pub record SeesHeader (view : View) (chunk : ChunkId) (now : View) : Type 0 where
  pub head : Head
  pub happens : Happens view [] (step.Head chunk) now
  pub is : now ≡ head_seen chunk head view

-- the header of each of these chunks was looked at, one after another, whatever it was
abbrev pub SeesHeaders : List ChunkId → View → View → Type 0
SeesHeaders [] view now = now ≡ view
SeesHeaders (chunk ∷ chunks) view now = (next : View) × SeesHeader view chunk next × SeesHeaders chunks next now

-- each chunk of the page from one index up to another was looked at, perhaps with others
abbrev pub LooksAlong : ℕ → ℕ → ℕ → View → View → Type 0
LooksAlong page from until view now =
    (looked : List ChunkId) × SeesHeaders looked view now × ((index : ℕ) → from ≤ index → index < until → is_among looked (record { page = page; index = index }) ≡ true)

-- the order has these chunks in this sequence, with or without others between
abbrev pub is_in_sequence : List ChunkId → List ChunkId → Bool
is_in_sequence order [] = true
is_in_sequence [] (chunk ∷ chunks) = false
is_in_sequence (other ∷ order) (chunk ∷ chunks) = if is_chunk other chunk then is_in_sequence order chunks else is_in_sequence order (chunk ∷ chunks)

-- chunks were looked at, and then some of the hand-out order, oldest first, were each put back or seen alive. Those that were looked at and
-- are handed out still were seen alive last, so all others were put back
pub record Recovers (order : List ChunkId) (view : View) (slabs : SlabState) (now : View) (left : SlabState) : Type 0 where
  pub looked : List ChunkId
  pub seen : View
  pub sees : SeesHeaders looked view seen
  pub again : List ChunkId
  pub oldest_first : is_in_sequence order again ≡ true
  pub each : SweepsEach again seen slabs now left
  pub alive : (chunk : ChunkId) → Contains looked chunk → Contains order chunk → Contains (class_of_chunk left chunk).order chunk → is_found_alive now.row.looks chunk ≡ true

-- each chunk of the hand-out order was looked at, and then some of them, oldest first, were each put back or seen alive. Each of the order
-- that is handed out still was seen alive last
pub record Sweeps (order : List ChunkId) (view : View) (slabs : SlabState) (now : View) (left : SlabState) : Type 0 where
  pub recovers : Recovers order view slabs now left
  pub whole : list_all (is_among recovers.looked) order ≡ true

-- the one view, but for what the other saw and did, and for its pages and lists
abbrev pub with_seen : View → View → View
with_seen view now = record view { events = now.events; slabs = now.slabs; row = record view.row { looks = now.row.looks; knows = record view.row.knows { seen_words = now.row.knows.seen_words } } }
