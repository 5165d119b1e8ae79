-- Copies of items: each word of the one chunk is read once, and written into the other at its place.
use Rattle.std.specs.Prelude.{◌≡◌, ℕ, ◌+◌, List, [], ◌∷◌}
use Rattle.mc_pages.specs.declared.ids.ChunkId.{ChunkId}
use Rattle.mc_words.specs.item.Items.{item_with}
use Rattle.mc_words.specs.hand.View.{View}
use Rattle.mc_words.specs.hand.Views.{held_word_seen, word_filled}

-- the view after these words were read of the one chunk, from this place on, and each was written into the copy
abbrev pub words_copied : ChunkId → ChunkId → ℕ → List ℕ → View → View
words_copied chunk copy place [] view = view
words_copied chunk copy place (word ∷ words) view = words_copied chunk copy (place + 1) words (word_filled copy place word (held_word_seen chunk place word view))

-- an item of this key and stamp was copied whole
pub record Copies (chunk copy : ChunkId) (key stamp : ℕ) (view now : View) : Type 0 where
  pub words : List ℕ
  pub is : now ≡ words_copied chunk copy 0 (item_with key stamp words) view
