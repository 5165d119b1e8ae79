-- The arena between two steps: a column for each kind of word, the values behind the locks, and what each hand has.
use Rattle.std.specs.Prelude.{ℕ, ◌+◌, ◌*◌, ◌/◌, ◌%◌, min, ◌==◌, Bool, false, ◌&&◌, nat_le, nat_lt, if◌then◌else◌, List, [], ◌∷◌, ◌++◌, length, map, replicate, slice_index, slice_index_or, slice_set, is_some, Option, Some, None}
use Rattle.std.specs.List.{range_with_len}
use Rattle.mc_classes.specs.Classes.{Classes, arena_pages_of, size_of, per_page_of}
use Rattle.mc_pages.specs.declared.ids.ChunkId.{ChunkId}
use Rattle.mc_pages.specs.SlabState.{SlabState, fresh_slabs, class_of_page}
use Rattle.mc_stripe.specs.StripeState.{ReadyStripe, new_stripe}
use Rattle.mc_core.specs.declared.head.Head.{Head}
use Rattle.mc_core.specs.declared.ids.Ids.{Ids}
use Rattle.mc_core.specs.declared.holding.Holding.{Holding}
use Rattle.mc_core.specs.declared.look.Look.{Look}
use Rattle.mc_core.specs.model.Head.{never_cut, uncut_from}
use Rattle.mc_core.specs.model.Holdings.{change_each, without_first}

-- all words of the arena, the values behind its locks, and what each hand is, holds and saw
pub record State : Type 0 where
  -- the size classes, which never change
  pub table : Classes
  -- a header for each index of each page
  pub heads : List Head
  -- the data words, page 0 first
  pub words : List ℕ
  -- the word of the slabs lock: 0, or the number of the hand that has it, plus 1
  pub slabs_lock : ℕ
  -- the word of each stripe's lock, stripe 0 first: 0, or the number of the hand that has it, plus 1
  pub stripe_locks : List ℕ
  -- pages and lists, the value behind the slabs lock, wherever it is
  pub slabs : SlabState
  -- the value behind each stripe's lock, wherever it is
  pub stripes : List ReadyStripe
  -- of each hand its number, and how many stamps it gave out
  pub ids : List Ids
  -- what each hand holds
  pub holdings : List (List Holding)
  -- what each hand saw or did under its last hold of the slabs lock
  pub looks : List (List Look)

-- the most chunks of a page
abbrev pub most_of : Classes → ℕ
most_of table = per_page_of table 1

-- the words of a page
abbrev pub page_words : Classes → ℕ
page_words table = table.page / 8

-- the table has this class; classes are numbered from 1
abbrev pub is_class : Classes → ℕ → Bool
is_class table class = nat_le 1 class && nat_le class (length table.sizes)

-- the words of a chunk of the class, none where there is no such class
abbrev pub room_in : Classes → ℕ → ℕ
room_in table class = if is_class table class then size_of table class / 8 else 0

-- the arena has such a chunk: its page is one of the arena's, and its index is below the most chunks of a page
abbrev pub has_chunk : Classes → ChunkId → Bool
has_chunk table chunk = nat_lt chunk.page (arena_pages_of table) && nat_lt chunk.index (most_of table)

-- the place of a chunk's header among all headers
abbrev pub head_place : Classes → ChunkId → ℕ
head_place table chunk = chunk.page * most_of table + chunk.index

-- the header at the chunk's place; where there is none, that of a chunk never cut
abbrev pub head_at : State → ChunkId → Head
head_at state chunk = slice_index_or state.heads (head_place state.table chunk) never_cut

-- the header at the chunk's place is now this
abbrev pub with_head : State → ChunkId → Head → State
with_head state chunk head = record state { heads = slice_set state.heads (head_place state.table chunk) head }

-- how many words a chunk of the page has
abbrev pub chunk_room : State → ChunkId → ℕ
chunk_room state chunk = room_in state.table (class_of_page state.slabs chunk.page)

-- the place of a chunk's word among all data words
abbrev pub word_place : State → ChunkId → ℕ → ℕ
word_place state chunk place = chunk.page * page_words state.table + chunk.index * chunk_room state chunk + place

-- the data word at this place of the chunk; place 0 has the key
abbrev pub word_at : State → ChunkId → ℕ → ℕ
word_at state chunk place = slice_index state.words (word_place state chunk place)

-- the data word at this place of the chunk is now this
abbrev pub with_word : State → ChunkId → ℕ → ℕ → State
with_word state chunk place word = record state { words = slice_set state.words (word_place state chunk place) word }

-- the item in a chunk: key, stamp, length, and as many words as the length counts, as far as the chunk goes
abbrev pub item_at : State → ChunkId → List ℕ
item_at state chunk = map (λ place. word_at state chunk place) (range_with_len 0 (min (3 + word_at state chunk 2) (chunk_room state chunk)))

-- the entry of a hand that another hand took over: no number, and no stamps
abbrev pub no_ids : Ids
no_ids = record { number = None; stamps = 0 }

-- the number of a hand, and how many stamps it gave out; gone where there is no such hand
abbrev pub ids_at : State → ℕ → Ids
ids_at state hand = slice_index_or state.ids hand no_ids

-- the number of a hand, none where it is gone or was never there
abbrev pub number_at : State → ℕ → Option ℕ
number_at state hand = (ids_at state hand).number

-- the hand is one of the arena's, and no other one took it over
abbrev pub is_hand : State → ℕ → Bool
is_hand state hand = is_some (number_at state hand)

-- the hand's number, and how many stamps it gave out, are now these
abbrev pub with_ids : State → ℕ → Ids → State
with_ids state hand ids = record state { ids = slice_set state.ids hand ids }

-- the word of a lock records that the hand of this number has the lock
abbrev pub is_held_by : ℕ → Option ℕ → Bool
is_held_by word None = false
is_held_by word (Some number) = word == number + 1

-- the hand has the slabs lock: the lock's word is the hand's number plus 1
abbrev pub has_slabs : State → ℕ → Bool
has_slabs state hand = is_held_by state.slabs_lock (number_at state hand)

-- the hand has the lock of this stripe: the lock's word is the hand's number plus 1
abbrev pub has_stripe : State → ℕ → ℕ → Bool
has_stripe state hand stripe = is_held_by (slice_index state.stripe_locks stripe) (number_at state hand)

-- the stripe of a key
abbrev pub stripe_of : State → ℕ → ℕ
stripe_of state key = key % length state.stripes

-- the stripe of this number, with its room; a new one where there is none
abbrev pub stripe_at : State → ℕ → ReadyStripe
stripe_at state stripe = slice_index_or state.stripes stripe new_stripe

-- the stripe of this number, with its room, is now this
abbrev pub with_stripe : State → ℕ → ReadyStripe → State
with_stripe state stripe value = record state { stripes = slice_set state.stripes stripe value }

-- pages and lists are now these
abbrev pub with_slabs : State → SlabState → State
with_slabs state slabs = record state { slabs = slabs }

-- what the hand holds, with what it got last at the end; nothing where there is no such hand
abbrev pub holdings_at : State → ℕ → List Holding
holdings_at state hand = slice_index_or state.holdings hand []

-- the hand has this holding, too, behind all others of its own
abbrev pub with_holding : State → ℕ → Holding → State
with_holding state hand holding = record state { holdings = slice_set state.holdings hand (holdings_at state hand ++ holding ∷ []) }

-- the hand's holdings that pass the test are changed so
abbrev pub with_changed : State → ℕ → (Holding → Bool) → (Holding → Holding) → State
with_changed state hand test change = record state { holdings = slice_set state.holdings hand (change_each test change (holdings_at state hand)) }

-- the hand lost its first holding that passes the test
abbrev pub without_holding : State → ℕ → (Holding → Bool) → State
without_holding state hand test = record state { holdings = slice_set state.holdings hand (without_first test (holdings_at state hand)) }

-- what the hand saw or did under its last hold of the slabs lock, the oldest first; it stays until the next hold
abbrev pub looks_at : State → ℕ → List Look
looks_at state hand = slice_index_or state.looks hand []

-- what the hand saw or did under the slabs lock is now this, the oldest first
abbrev pub with_looks : State → ℕ → List Look → State
with_looks state hand looks = record state { looks = slice_set state.looks hand looks }

-- the hand saw or did this, too, under the slabs lock
abbrev pub with_look : State → ℕ → Look → State
with_look state hand look = with_looks state hand (looks_at state hand ++ look ∷ [])

-- all pages untouched, all locks free, hands numbered from 0 that hold nothing, and issue numbers that count on from this one
abbrev pub new_state : Classes → ℕ → ℕ → ℕ → State
new_state table stripes hands start = record {
  table = table;
  heads = replicate (arena_pages_of table * most_of table) (uncut_from start);
  words = replicate (arena_pages_of table * page_words table) 0;
  slabs_lock = 0;
  stripe_locks = replicate stripes 0;
  slabs = fresh_slabs table;
  stripes = replicate stripes new_stripe;
  ids = map (λ number. record { number = Some number; stamps = 0 }) (range_with_len 0 hands);
  holdings = replicate hands [];
  looks = replicate hands [];
}
