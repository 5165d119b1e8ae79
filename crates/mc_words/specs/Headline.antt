-- The promise of the arena, as its table shows it: by the words, the values at home, and what the hands hold.
use Rattle.std.specs.Prelude.{◌≡◌, ◌⊎◌, ℕ, ◌+◌, ◌*◌, ◌<◌, ◌≤◌, ◌==◌, List, [], ◌∷◌, ◌++◌, IsTrue, count_by, slice_get, slice_index, Some, Contains, false, not, true}
use Rattle.std.specs.List.{list_all}
use mathlib.Core.Option.{some}
use lib.ListN.{get_elem?}
use Rattle.mc_classes.specs.Classes.{arena_pages_of}
use Rattle.mc_pages.specs.declared.ids.ChunkId.{ChunkId}
use Rattle.mc_pages.specs.Accounted.{is_moving, is_of_class, is_pool, places_in, truth}
use Rattle.mc_pages.specs.ClassState.{times_in}
use Rattle.mc_pages.specs.Ledger.{KeepsGrace, all_untouched, ordinary_count, owner_at, replay}
use Rattle.mc_pages.specs.SlabState.{HasClass, SlabState, class_at}
use Rattle.mc_core.specs.declared.event.Event.{Event}
use Rattle.mc_core.specs.declared.head.Head.{Head}
use Rattle.mc_core.specs.declared.head.Tag.TheVariants.{Free, Linked, Out, Unlinked}
use Rattle.mc_core.specs.declared.holding.Holding.{Holding}
use Rattle.mc_core.specs.model.Columns.{IsHandedOut, holder_count, count_of_holdings, link_count}
use Rattle.mc_core.specs.model.Head.{decode}
use Rattle.mc_core.specs.model.Holdings.{is_fresh, holding_words}
use Rattle.mc_core.specs.model.InOrder.{IsOfTable}
use Rattle.mc_core.specs.past.Past.{Moment}
use Rattle.mc_core.specs.model.State.{has_chunk, holdings_at, room_in}
use Rattle.mc_core.specs.past.Stretch.{HoldsChunk, KeepsHolding, is_fill_of}
use Rattle.mc_words.specs.declared.lock.slot.Slot.TheVariants.{OfSlabs}
use Rattle.mc_words.specs.rule.Happens.{LawfulView}
use Rattle.mc_words.specs.rule.Joins.{Rule}
use Rattle.mc_words.specs.rule.Layout.{data_word, head_word, page_word, slabs_word}
use Rattle.mc_words.specs.rule.Meaning.{WordsOfTable}
use Rattle.mc_words.specs.hand.View.{Setup, View}

-- a chunk's header, as its word has it
abbrev pub header_in : Setup → List ℕ → ChunkId → Head
header_in setup words chunk = decode (slice_index words (head_word setup chunk))

-- the class of a chunk's page, as the page's word has it: 0 where none has the page
abbrev pub class_in : Setup → List ℕ → ChunkId → ℕ
class_in setup words chunk = slice_index words (page_word setup chunk.page)

-- a data word of a chunk
abbrev pub data_in : Setup → List ℕ → ChunkId → ℕ → ℕ
data_in setup words chunk place = slice_index words (data_word setup (room_in setup.table (class_in setup words chunk)) chunk place)

-- how often all hands together hold the chunk
abbrev pub holders_among : ChunkId → List View → ℕ
holders_among chunk [] = 0
holders_among chunk (view ∷ views) = count_of_holdings chunk view.row.holdings + holders_among chunk views

-- each page has the one owner that the ledger replays: untouched, the pool, a class of the table, or the move. It is once in its class's
-- list or once in the pool's, and in no other list. At most one page moves
pub record ArePagesOwned (setup : Setup) (slabs : SlabState) : Type 0 where
  pub replays : replay (all_untouched (arena_pages_of setup.table)) slabs.ledger ≡ Some slabs.owners
  pub classes : (class page : ℕ) → HasClass slabs class → count_by (λ p. p == page) (class_at slabs class).pages ≡ truth (is_of_class class (owner_at slabs.owners page))
  pub owned : (class page : ℕ) → IsTrue (is_of_class class (owner_at slabs.owners page)) → HasClass slabs class
  pub pool : (page : ℕ) → count_by (λ p. p == page) slabs.pool ≡ truth (is_pool (owner_at slabs.owners page))
  pub move : (a b : ℕ) → IsTrue (is_moving (owner_at slabs.owners a)) → IsTrue (is_moving (owner_at slabs.owners b)) → a ≡ b

-- granted bytes keep limit and grace: the pages that were granted within the limit have at most the limit's bytes. Beyond the limit a class
-- got one page at most, and has a page of its own from then on, which isn't moving
pub record KeepLimitAndGrace (setup : Setup) (slabs : SlabState) : Type 0 where
  pub limit : ordinary_count slabs.ledger * setup.table.page ≤ setup.table.limit
  pub grace : KeepsGrace slabs.owners slabs.ledger

-- the chunk is this often on the class's free list, and this often in its hand-out order
abbrev pub Stands : SlabState → ℕ → ChunkId → ℕ → ℕ → Type 0
Stands slabs class chunk free out = (times_in chunk (class_at slabs class).free ≡ free) × (times_in chunk (class_at slabs class).order ≡ out)

-- the chunk is free; it is once on the class's free list, and not in the hand-out order
abbrev pub IsFreeChunk : SlabState → ℕ → ChunkId → Head → Type 0
IsFreeChunk slabs class chunk head = (head.tag ≡ Free) × Stands slabs class chunk 1 0

-- the chunk is cleared: out, and in neither list of the class, while its page moves
abbrev pub IsClearedChunk : SlabState → ℕ → ChunkId → Head → Type 0
IsClearedChunk slabs class chunk head = (head.tag ≡ Out) × Stands slabs class chunk 0 0 × (is_moving (owner_at slabs.owners chunk.page) ≡ true)

-- the chunk is handed out; it is once in the class's hand-out order, and not on the free list
abbrev pub IsChunkOut : SlabState → ℕ → ChunkId → Head → Type 0
IsChunkOut slabs class chunk head = ((head.tag ≡ Unlinked) ⊎ (head.tag ≡ Linked)) × Stands slabs class chunk 0 1

-- the chunk is in one place of the class: free, cleared, or handed out
abbrev pub IsInOnePlace : SlabState → ℕ → ChunkId → Head → Type 0
IsInOnePlace slabs class chunk head = IsFreeChunk slabs class chunk head ⊎ IsClearedChunk slabs class chunk head ⊎ IsChunkOut slabs class chunk head

-- pages and lists behind the free slabs lock are of the arena's table, and accounted for. Each page has one owner, as the ledger replays,
-- and granted bytes keep limit and grace. Each cut chunk is once on a free list, cleared, or handed out. The lists of a class have chunks
-- of its own pages alone
pub record IsAccountedFor (setup : Setup) (words : List ℕ) (slabs : SlabState) : Type 0 where
  pub of_table : IsOfTable setup.table slabs
  pub pages : ArePagesOwned setup slabs
  pub bytes : KeepLimitAndGrace setup slabs
  pub chunks : (class : ℕ) (chunk : ChunkId) → HasClass slabs class → has_chunk setup.table chunk ≡ true →
      is_of_class class (owner_at slabs.owners chunk.page) ≡ true → chunk.index < (class_at slabs class).per_page → IsInOnePlace slabs class chunk (header_in setup words chunk)
  pub only : (class : ℕ) (chunk : ChunkId) → HasClass slabs class → 1 ≤ places_in slabs class chunk →
      (is_of_class class (owner_at slabs.owners chunk.page) ≡ true) × (chunk.index < (class_at slabs class).per_page)

-- a chunk that somebody holds is handed out with the issue number that it had as the hand got it. Its page is a class's, and each word that
-- its holder knows is there. So nobody handed the chunk out, cleared it or cut it anew
pub record IsKeptIn (setup : Setup) (words : List ℕ) (holding : Holding) : Type 0 where
  pub handed_out : IsHandedOut (header_in setup words holding.chunk) holding.issue
  pub owned : 1 ≤ class_in setup words holding.chunk
  pub shows : (place word : ℕ) → slice_get (holding_words holding) place ≡ Some (Some word) → data_in setup words holding.chunk place ≡ word

-- the promise between any two atomic steps. With the slabs lock free, the value at home accounts for pages, bytes and chunks. Each header
-- counts exactly its holders, and one more where a key leads to the chunk. What anybody holds is kept
pub record Headline (setup : Setup) (t : WordsOfTable) : Type 0 where
  pub free : slice_index t.words slabs_word ≡ 0 → (slabs : SlabState) × (get_elem? t.homes 0 ≡ some (some (OfSlabs slabs))) × IsAccountedFor setup t.words slabs
  pub counts : (chunk : ChunkId) → has_chunk setup.table chunk ≡ true →
      (header_in setup t.words chunk).count ≡ link_count (header_in setup t.words chunk).tag + holders_among chunk t.views
  pub kept : (hand : ℕ) (view : View) (holding : Holding) → get_elem? t.views hand ≡ some view → Contains view.row.holdings holding → IsKeptIn setup t.words holding

-- *the rule of the table gives the headline*
abbrev pub RuleGivesHeadline : Type 0
RuleGivesHeadline = (setup : Setup) (t : WordsOfTable) → Rule setup t → Headline setup t

-- a hand has the holding in both states of the table
pub record IsHeldInBoth (before now : WordsOfTable) (hand : ℕ) (holding : Holding) : Type 0 where
  pub view : View
  pub at : get_elem? before.views hand ≡ some view
  pub had : Contains view.row.holdings holding
  pub after : View
  pub at_after : get_elem? now.views hand ≡ some after
  pub has : Contains after.row.holdings holding

-- the chunk has one issue number in both states, and each word that is known of it is the same
pub record StaysTheSame (setup : Setup) (before now : WordsOfTable) (holding : Holding) : Type 0 where
  pub same_issue : (header_in setup now.words holding.chunk).issue ≡ (header_in setup before.words holding.chunk).issue
  pub kept_before : IsKeptIn setup before.words holding
  pub kept_now : IsKeptIn setup now.words holding
  pub same_words : (place word : ℕ) → slice_get (holding_words holding) place ≡ Some (Some word) → data_in setup now.words holding.chunk place ≡ data_in setup before.words holding.chunk place

-- *what a hand holds in two states is the same in both*: so between a get and its release the chunk was never handed out, cleared or cut anew
abbrev pub HeldStaysTheSame : Type 0
HeldStaysTheSame = (setup : Setup) (before now : WordsOfTable) (hand : ℕ) (holding : Holding) → Rule setup before → Rule setup now → IsHeldInBoth before now hand holding → StaysTheSame setup before now holding

-- the headline of a hand's view, in the view's lawful moment: on the words that the table had then, the value behind the slabs lock, and
-- the holdings of all hands
pub record HeadlineOf (view : View) (was : LawfulView view) : Type 0 where
  pub free : slice_index was.words slabs_word ≡ 0 → IsAccountedFor view.setup was.words was.moment.state.slabs
  pub counts : (chunk : ChunkId) → has_chunk view.setup.table chunk ≡ true →
      (header_in view.setup was.words chunk).count ≡ link_count (header_in view.setup was.words chunk).tag + holder_count chunk was.moment.state.holdings
  pub kept : (hand : ℕ) (holding : Holding) → Contains (holdings_at was.moment.state hand) holding → IsKeptIn view.setup was.words holding
  pub own : (holding : Holding) → Contains view.row.holdings holding → IsKeptIn view.setup was.words holding

-- *each view of a hand is of a moment of which the promise holds*: so whoever calls has it before each call and behind it
abbrev pub ViewsGiveHeadline : Type 0
ViewsGiveHeadline = (view : View) (was : LawfulView view) → HeadlineOf view was

-- the data words of the chunk are the same
abbrev pub HasSameData : Setup → List ℕ → List ℕ → ChunkId → Type 0
HasSameData setup before now chunk = (place : ℕ) → place < room_in setup.table (class_in setup before chunk) → data_in setup now chunk place ≡ data_in setup before chunk place

-- the chunk is handed out with its issue, and its page is of the same class. The words that the hand itself doesn't write are the same;
-- those of a reference all are
pub record StaysThroughout (setup : Setup) (before now : List ℕ) (moment : Moment) (hand : ℕ) (chunk : ChunkId) (issue : ℕ) (run : List Event) : Type 0 where
  pub handed_out : IsHandedOut (header_in setup now chunk) issue
  pub owned : 1 ≤ class_in setup now chunk
  pub same_class : class_in setup now chunk ≡ class_in setup before chunk
  pub unfilled : list_all (λ event. not (is_fill_of hand chunk event)) run ≡ true → HasSameData setup before now chunk
  pub referred : (held : HoldsChunk moment hand chunk issue) → is_fresh held.holding ≡ false → HasSameData setup before now chunk

-- *what a hand keeps over a run stays so in each state of the run*. Events lead from one state to another, each allowed, and the hand holds
-- the chunk before and after each. Then in each state between, the chunk is handed out with this issue, for one class, with the same words
abbrev pub HeldStaysThroughout : Type 0
HeldStaysThroughout = (setup : Setup) (before now : WordsOfTable) (was : Rule setup before) (is : Rule setup now) (hand : ℕ) (chunk : ChunkId) (issue : ℕ) (run more : List Event) →
    is.ruled.run ≡ was.ruled.run ++ run → KeepsHolding was.ruled.moment hand chunk issue (run ++ more) → StaysThroughout setup before.words now.words was.ruled.moment hand chunk issue run

-- *what a hand keeps over a run stays so in each moment of which some hand knows its view*
abbrev pub ViewsStayThroughout : Type 0
ViewsStayThroughout = (first last : View) (was : LawfulView first) (is : LawfulView last) (hand : ℕ) (chunk : ChunkId) (issue : ℕ) (run more : List Event) → last.setup ≡ first.setup →
    is.run ≡ was.run ++ run → KeepsHolding was.moment hand chunk issue (run ++ more) → StaysThroughout first.setup was.words is.words was.moment hand chunk issue run
