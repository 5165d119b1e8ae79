-- How an item is evicted: the oldest chunks of a class are tried, one after another.
use Rattle.std.specs.Prelude.{◌≡◌, ◌⊎◌, ℕ, false, List, [], ◌∷◌, ◌++◌, Some}
use Rattle.mc_pages.specs.declared.ids.ChunkId.{ChunkId}
use Rattle.mc_pages.specs.Changes.{after_back}
use Rattle.mc_pages.specs.Eviction.{eviction_candidates}
use Rattle.mc_pages.specs.SlabState.{SlabState}
use Rattle.mc_core.specs.model.Head.{is_dead}
use Rattle.mc_stripe.specs.declared.history.Call.TheVariants as call
use Rattle.mc_words.specs.item.Removal.{Condemns}
use Rattle.mc_words.specs.lock.Doing.{SlabsDoing}
use Rattle.mc_words.specs.page.Owner.{PutsBack, SeesOther}
use Rattle.mc_words.specs.hand.View.{View}
use Rattle.mc_items.specs.declared.evicting.Supply.{Supply}
use Rattle.mc_items.specs.declared.evicting.Supply.TheVariants.{Page, Dead, Evicted}
use Rattle.mc_items.specs.Calls.{RecordsCall, RecordsNoCall}
use Rattle.mc_items.specs.Supplying.{FreesEvicted, LacksCall, PassesItem, ReachesItem}

-- the chunk was passed over: its item couldn't be taken away, and the chunk wasn't dead
pub record PassesOne (number : ℕ) (chunk : ChunkId) (view now : View) : Type 0 where
  pub tried : View
  pub passes : PassesItem number chunk view tried
  pub alive : SeesOther tried (Some chunk) (λ head. is_dead head ≡ false) now

-- each of these chunks was passed over, one after another
abbrev pub PassesEach : ℕ → List ChunkId → View → View → Type 0
PassesEach number [] view now = now ≡ view
PassesEach number (chunk ∷ chunks) view now = (next : View) × PassesOne number chunk view next × PassesEach number chunks next now

-- a chunk came free: its item was evicted, and the chunk put back; or the chunk had died meanwhile, and was put back
abbrev pub FreesChunk : ℕ → ℕ → ChunkId → Supply → SlabsDoing
FreesChunk number class chunk Page view slabs now left = ⊥
FreesChunk number class chunk Dead view slabs now left =
    (tried : View) × PassesItem number chunk view tried × PutsBack tried slabs chunk now × (left ≡ after_back slabs chunk)
FreesChunk number class chunk Evicted view slabs now left =
    (taken : View) × ReachesItem number chunk (λ number stripe. Condemns number stripe chunk) view taken × FreesEvicted number class chunk taken slabs now left

-- the first of these chunks that could be had was freed, and those before it were passed over
pub record FreesOne (number class : ℕ) (chunks : List ChunkId) (supply : Supply) (view : View) (slabs : SlabState) (now : View) (left : SlabState) : Type 0 where
  pub before : List ChunkId
  pub chunk : ChunkId
  pub after : List ChunkId
  pub first : chunks ≡ before ++ chunk ∷ after
  pub passed : View
  pub passes : PassesEach number before view passed
  pub frees : FreesChunk number class chunk supply passed slabs now left

-- some of these chunks were passed over, and then there was no memory for the entry of the next one's eviction
pub record LacksEntry (number : ℕ) (chunks : List ChunkId) (view now : View) : Type 0 where
  pub before : List ChunkId
  pub chunk : ChunkId
  pub after : List ChunkId
  pub first : chunks ≡ before ++ chunk ∷ after
  pub passed : View
  pub passes : PassesEach number before view passed
  pub lacks : LacksCall chunk passed now

-- the first of the class's candidates that could be had was freed, and those before it were passed
abbrev pub FreesOneCandidate : ℕ → ℕ → Supply → SlabsDoing
FreesOneCandidate number class supply view slabs now left = FreesOne number class (eviction_candidates slabs class) supply view slabs now left

-- the candidates of the class were passed, and pages and lists are as they were
abbrev pub PassesCandidates : ℕ → ℕ → SlabsDoing
PassesCandidates number class view slabs now left = PassesEach number (eviction_candidates slabs class) view now × (left ≡ slabs)

-- one of the class's candidates had no memory for the entry of its eviction, those before it were passed, and lists stay
abbrev pub LacksEntryAtCandidate : ℕ → ℕ → SlabsDoing
LacksEntryAtCandidate number class view slabs now left = LacksEntry number (eviction_candidates slabs class) view now × (left ≡ slabs)

-- the hand's own calls got an eviction at most
abbrev pub RecordsEviction : ℕ → View → View → Type 0
RecordsEviction number view now =
    RecordsNoCall view now ⊎ ((stripe : ℕ) × (key : ℕ) × RecordsCall number stripe (call.Evict number key) view now)
