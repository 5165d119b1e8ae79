-- The items of chunks, as a hand knows them.
use Rattle.std.specs.Prelude.{◌≡◌, ◌<◌, ℕ, List, [], ◌∷◌, length, slice_index, slice_index_or, Option, None, Contains}
use Rattle.mc_core.specs.law.Knowing.{WasStored}
use Rattle.mc_core.specs.past.Past.{KnownItem, Moment}
use Rattle.std.specs.List.{fold}
use Rattle.std.specs.Option.{option_map_or}
use Rattle.mc_pages.specs.declared.ids.ChunkId.{ChunkId}
use Rattle.mc_core.specs.declared.holding.Holding.{Holding}
use Rattle.mc_core.specs.model.Holdings.{Words, holding_of, item_of, stamp_in_words, holding_words}
use Rattle.mc_core.specs.law.Seen.{last_read}
use Rattle.mc_words.specs.hand.View.{View}

-- an item: key, stamp, how many words, and these
abbrev pub item_with : ℕ → ℕ → List ℕ → List ℕ
item_with key stamp words = key ∷ stamp ∷ length words ∷ words

-- the words of the item in this chunk: key, stamp, length, and as many as the length counts; none where the hand doesn't hold the chunk
abbrev pub held_item : View → ChunkId → List ℕ
held_item view chunk = option_map_or item_of (holding_of chunk view.row.holdings) []

-- a word of a chunk, as the hand read it under this hold of the slabs lock; none where the hand didn't read it
abbrev pub word_read : View → ChunkId → ℕ → Option ℕ
word_read view chunk place = fold (last_read chunk place) None view.row.looks

-- the words of the chunk that the hand holds, as far as they are known; none where the hand doesn't hold the chunk
abbrev pub known_words_in : View → ChunkId → Words
known_words_in view chunk = option_map_or holding_words (holding_of chunk view.row.holdings) []

-- the issue number with which the chunk that the hand holds was handed out, 0 where it doesn't hold it
abbrev pub issue_in : View → ChunkId → ℕ
issue_in view chunk = option_map_or (λ (holding : Holding). holding.issue) (holding_of chunk view.row.holdings) 0

-- some hand knows an item of this chunk, whose words some hand stored; this is the item's word at the place, if it has one
pub record IsWordOfItem (moment : Moment) (chunk : ChunkId) (place word : ℕ) : Type 0 where
  pub hand : ℕ
  pub item : KnownItem
  pub known : Contains (slice_index_or moment.past.known hand []) item
  pub there : item.chunk ≡ chunk
  pub stored : WasStored moment.past.stored (stamp_in_words item.words) item.words
  pub is_word : place < length item.words → slice_index item.words place ≡ word
