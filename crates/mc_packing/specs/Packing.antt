-- A key and a value of bytes as the words of an item.
use Rattle.std.specs.Prelude.{◌≡◌, ℕ, zero, suc, ◌+◌, ◌-◌, ◌/◌, ◌%◌, ◌^◌, ◌<◌, List, [], ◌∷◌, ◌++◌, length, take, drop, slice_index}
use Rattle.std.specs.Int.{w64, from_le_bytes, to_le_bytes}

-- each of these numbers is a byte
abbrev pub AreBytes : List ℕ → Type 0
AreBytes bytes = (place : ℕ) → slice_index bytes place < 256

-- each of these numbers is a word
abbrev pub AreWords : List ℕ → Type 0
AreWords words = (place : ℕ) → slice_index words place < 2 ^ 64

-- the word of the first eight of these bytes, the first lowest; missing bytes are 0
unfoldable pub packed_word : List ℕ → ℕ
packed_word bytes = from_le_bytes w64 bytes

-- the eight bytes of a word, the lowest first
unfoldable pub bytes_of_word : ℕ → List ℕ
bytes_of_word word = to_le_bytes w64 word

-- how many words n bytes fill, the last one perhaps in part
abbrev pub word_count_for : ℕ → ℕ
word_count_for bytes = (bytes + 7) / 8

-- the first n words of these bytes, eight bytes a word
unfoldable pub packed_words_from : ℕ → List ℕ → List ℕ
packed_words_from zero bytes = []
packed_words_from (suc more) bytes = packed_word bytes ∷ packed_words_from more (drop 8 bytes)

-- the words that these bytes fill, eight bytes a word
abbrev pub packed_words : List ℕ → List ℕ
packed_words bytes = packed_words_from (word_count_for (length bytes)) bytes

-- the words of an item: the lengths of key and value, the key's bytes, and from a new word on the value's
unfoldable pub packed_item : List ℕ → List ℕ → List ℕ
packed_item key value = length key ∷ length value ∷ packed_words key ++ packed_words value

-- the first n bytes of these words, or all their bytes where there are fewer
unfoldable pub bytes_of_words : ℕ → List ℕ → List ℕ
bytes_of_words count [] = []
bytes_of_words count (word ∷ words) = take count (bytes_of_word word) ++ bytes_of_words (count - 8) words

-- the words are just those of n bytes: none is missing, none is extra, and behind the last byte the last word has zeros
abbrev pub AreWordsOfBytes : ℕ → List ℕ → Type 0
AreWordsOfBytes count words = (words ≡ packed_words (bytes_of_words count words)) × (length (bytes_of_words count words) ≡ count)

-- the key of an item's words
abbrev pub packed_key : List ℕ → List ℕ
packed_key words = bytes_of_words (slice_index words 0) (drop 2 words)

-- the value of an item's words
abbrev pub value_in : List ℕ → List ℕ
value_in words = bytes_of_words (slice_index words 1) (drop (2 + word_count_for (slice_index words 0)) words)

-- the words are those of an item of this key, with some value
abbrev pub IsPackingOf : List ℕ → List ℕ → Type 0
IsPackingOf key words = words ≡ packed_item key (value_in words)

-- the words behind the two lengths, as many as the key fills
abbrev pub key_words : List ℕ → List ℕ → List ℕ
key_words key words = take (word_count_for (length key)) (drop 2 words)

-- the words behind those of the key
abbrev pub value_words : List ℕ → List ℕ → List ℕ
value_words key words = drop (2 + word_count_for (length key)) words

-- the word has zeros behind its first n bytes
abbrev pub EndsInZeros : ℕ → ℕ → Type 0
EndsInZeros bytes word = packed_word (take bytes (bytes_of_word word)) ≡ word

-- n bytes fill the words from this place on: the list has just enough words, and behind the last byte the last word has zeros
pub record FillsFrom (place count : ℕ) (words : List ℕ) : Type 0 where
  pub len : length words ≡ place + word_count_for count
  pub zeros : 0 < count % 8 → EndsInZeros (count % 8) (slice_index words (length words - 1))

-- by lengths, key, count and last word, the words are those of an item of this key with a value of n bytes
pub record LooksPacked (key : List ℕ) (count : ℕ) (words : List ℕ) : Type 0 where
  pub key_len : slice_index words 0 ≡ length key
  pub value_len : slice_index words 1 ≡ count
  pub own : key_words key words ≡ packed_words key
  pub value : FillsFrom (2 + word_count_for (length key)) count words
