-- The holdings of one hand, and the words of an item.
use Rattle.std.specs.Prelude.{ℕ, ◌+◌, Bool, true, false, ◌&&◌, nat_le, if◌then◌else◌, List, [], ◌∷◌, length, map, take, find, slice_index, slice_index_or, is_some, unwrap_or, Option, Some, None}
use Rattle.std.specs.List.{list_any, list_all}
use Rattle.mc_pages.specs.declared.ids.ChunkId.{ChunkId}
use Rattle.mc_pages.specs.ClassState.{is_chunk}
use Rattle.mc_core.specs.declared.holding.Holding.{Holding}
use Rattle.mc_core.specs.declared.holding.Kind.{Kind}
use Rattle.mc_core.specs.declared.holding.Kind.TheVariants.{Reference, Fresh}
use Rattle.mc_core.specs.declared.holding.Purpose.TheVariants.{Copy}

-- the words of a chunk, as far as they are known
abbrev pub Words : Type 0
Words = List (Option ℕ)

-- these words as a chunk's words, each of them known
abbrev pub all_known : List ℕ → Words
all_known item = map (λ word. Some word) item

-- the known words as numbers, with 0 for each unknown one
abbrev pub numbers_of_known : Words → List ℕ
numbers_of_known words = map (λ word. unwrap_or word 0) words

-- the key of an item, which is its first word; 0 where it has none
abbrev pub key_of : List ℕ → ℕ
key_of item = slice_index item 0

-- the stamp of an item, which is its second word; 0 where it has none
abbrev pub stamp_in_words : List ℕ → ℕ
stamp_in_words item = slice_index item 1

-- how many words an item takes: key, stamp and length, and then as many as its third word counts
abbrev pub length_of_item : List ℕ → ℕ
length_of_item item = 3 + slice_index item 2

-- a word by its place, 0 where it isn't known
abbrev pub word_in : Words → ℕ → ℕ
word_in words place = unwrap_or (slice_index_or words place None) 0

-- the key among these words, which is the first; 0 where it isn't known
abbrev pub known_key : Words → ℕ
known_key words = word_in words 0

-- the stamp among these words, which is the second; 0 where it isn't known
abbrev pub stamp_in : Words → ℕ
stamp_in words = word_in words 1

-- how many words an item takes: key, stamp and length, and then as many as its length counts
abbrev pub item_length : Words → ℕ
item_length words = 3 + word_in words 2

-- the item's words among these: as many as the item takes, or all where there are fewer
abbrev pub words_of_item : Words → Words
words_of_item words = take (item_length words) words

-- there are at least as many words as the item takes
abbrev pub has_whole_item : Words → Bool
has_whole_item words = nat_le (item_length words) (length words)

-- the item fits, and all its words are known
abbrev pub is_complete : Words → Bool
is_complete words = has_whole_item words && list_all is_some (words_of_item words)

-- the holding is of this chunk
abbrev pub is_of_chunk : ChunkId → Holding → Bool
is_of_chunk chunk holding = is_chunk holding.chunk chunk

-- the first holding of the chunk
abbrev pub holding_of : ChunkId → List Holding → Option Holding
holding_of chunk holdings = find (is_of_chunk chunk) holdings

-- the holdings without the first that passes the test
abbrev pub without_first : (Holding → Bool) → List Holding → List Holding
without_first test [] = []
without_first test (holding ∷ holdings) = if test holding then holdings else holding ∷ without_first test holdings

-- the holdings where each that passes the test is changed, and keeps its place
abbrev pub change_each : (Holding → Bool) → (Holding → Holding) → List Holding → List Holding
change_each test change holdings = map (λ holding. if test holding then change holding else holding) holdings

-- the words that a holding's chunk is known to have: of a reference all of its item, of a fresh chunk those that were filled
abbrev pub words_of_kind : Kind → Words
words_of_kind (Reference item) = all_known item
words_of_kind (Fresh purpose words) = words

-- what is known of the chunk's words by this holding: all of its item, or those that were filled
abbrev pub holding_words : Holding → Words
holding_words holding = words_of_kind holding.kind

-- what is known of the words of a holding's chunk, as numbers: of a reference its item, of a fresh chunk those that were filled, with 0 for each
-- other
abbrev pub item_of_kind : Kind → List ℕ
item_of_kind (Reference item) = item
item_of_kind (Fresh purpose words) = numbers_of_known words

-- what is known of the chunk's words by this holding, as numbers, with 0 for each that wasn't filled
abbrev pub item_of : Holding → List ℕ
item_of holding = item_of_kind holding.kind

-- the hand fills the chunk, and hasn't linked it yet since it got it
abbrev pub is_fresh_kind : Kind → Bool
is_fresh_kind (Reference item) = false
is_fresh_kind (Fresh purpose words) = true

-- the holding is of a chunk that the hand got and hasn't linked yet, and is no reference
abbrev pub is_fresh : Holding → Bool
is_fresh holding = is_fresh_kind holding.kind

-- the fresh chunk is to be a copy of the item in this chunk, which wasn't condemned yet
abbrev pub is_copy_kind : ChunkId → Kind → Bool
is_copy_kind old (Fresh (Copy chunk) words) = is_chunk chunk old
is_copy_kind old kind = false

-- the holding is a fresh chunk for a copy of the item in this chunk, which wasn't condemned yet
abbrev pub is_copy_of : ChunkId → Holding → Bool
is_copy_of old holding = is_copy_kind old holding.kind

-- the hand holds a fresh chunk
abbrev pub has_fresh : List Holding → Bool
has_fresh holdings = list_any is_fresh holdings
