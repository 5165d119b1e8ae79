-- An item of the plain machine, and the words of one that comes.
use Rattle.std.specs.Prelude.{ℕ, ◌+◌, ◌*◌, ◌%◌, ◌^◌, ◌==◌, Bool, true, false, ◌&&◌, List, map}
use Rattle.std.specs.List.{range_with_len}

-- a key with its words, and whether the key still leads to it
pub record Item : Type 0 where
  pub key : ℕ
  pub words : List ℕ
  pub linked : Bool

-- the bytes of an item of n words: 24 for key, stamp and length, and 8 for each word
abbrev pub item_bytes : ℕ → ℕ
item_bytes words = 24 + 8 * words

-- n words: base, base + 1 and so on, modulo 2^64
abbrev pub counting_words : ℕ → ℕ → List ℕ
counting_words base words = map (λ i. (base + i) % 2 ^ 64) (range_with_len 0 words)

-- an item that its key leads to
abbrev pub new_item : ℕ → List ℕ → Item
new_item key words = record { key = key; words = words; linked = true }

-- the item's key is this key, and leads to the item
abbrev pub is_linked_to : ℕ → Item → Bool
is_linked_to key item = item.linked && item.key == key

-- the item after its key leads to it no more; whoever holds it still does
abbrev pub item_after_unlink : Item → Item
item_after_unlink item = record item { linked = false }
