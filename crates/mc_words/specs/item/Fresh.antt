-- Chunks that a hand got and fills.
use Rattle.std.specs.Prelude.{◌≡◌, ℕ, true, List, length, Some}
use Rattle.mc_pages.specs.declared.ids.ChunkId.{ChunkId}
use Rattle.mc_core.specs.declared.holding.Holding.{Holding}
use Rattle.mc_core.specs.model.Holdings.{holding_of, is_fresh, holding_words}
use Rattle.mc_words.specs.declared.hand.held.Fresh.{Fresh}
use Rattle.mc_words.specs.hand.View.{Setup, View}
use Rattle.mc_words.specs.rule.Layout.{data_word}

-- the first of these holdings that is of this chunk is fresh, and has n words
pub record IsFreshIn (holdings : List Holding) (chunk : ChunkId) (room : ℕ) : Type 0 where
  pub holding : Holding
  pub found : holding_of chunk holdings ≡ Some holding
  pub fresh : is_fresh holding ≡ true
  pub room_is : length (holding_words holding) ≡ room

-- the hand fills this chunk, which has n words
abbrev pub IsFreshOf : View → ChunkId → ℕ → Type 0
IsFreshOf view chunk room = IsFreshIn view.row.holdings chunk room

-- the place in the table where the words of a fresh chunk begin
abbrev pub place_to_fill : Setup → Fresh → ℕ
place_to_fill setup fresh = data_word setup fresh.room fresh.chunk 0
