-- Items that are got by hints: each is the current item of its key at the one exchange by which it is got.
use Rattle.std.specs.Prelude.{◌≡◌, ℕ, Some}
use Rattle.mc_pages.specs.declared.ids.ChunkId.{ChunkId}
use Rattle.mc_core.specs.run.Items.{chunk_of_key}
use Rattle.mc_core.specs.past.Past.{Moment}
use Rattle.mc_words.specs.declared.item.refs.Hint.{Hint}
use Rattle.mc_words.specs.hand.Observers.{hint_chunk}
use Rattle.mc_words.specs.hand.View.{View}
use Rattle.mc_items.specs.declared.refs.Ref.{Ref}
use Rattle.mc_items.specs.ItemRefs.{item_key, item_stamp}
use Rattle.mc_items.specs.OnKeys.{GetsByHint}

-- in this moment the key leads to this chunk, with this stamp, by the index of its own stripe, whoever has that stripe's lock
abbrev pub IsCurrent : Moment → ℕ → ℕ → ChunkId → Type 0
IsCurrent moment key stamp chunk = chunk_of_key moment.state key ≡ Some (chunk, stamp)

-- the hand got the item by the hint, and read its key, stamp and length. In the lawful moment of the exchange by which the hand got the
-- item, its key led to it
pub record GetsCurrent (hint : Hint) (item : Ref) (view now : View) : Type 0 where
  pub gets : GetsByHint hint item view now
  pub current : IsCurrent gets.1.refers.happens.was.moment (item_key item) (item_stamp item) (hint_chunk hint)
