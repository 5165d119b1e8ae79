-- A rescue keeps the item: its key, its stamp and its words go to the copy as they were in the original.
use Rattle.std.specs.Prelude.{◌≡◌, ℕ, List, [], ◌∷◌, ◌++◌, Some}
use Rattle.mc_pages.specs.declared.ids.ChunkId.{ChunkId}
use Rattle.mc_pages.specs.SlabState.{SlabState}
use Rattle.mc_stripe.specs.StripeState.{ReadyStripe, chunk_and_stamp}
use Rattle.mc_core.specs.model.Holdings.{key_of, stamp_in_words}
use Rattle.mc_core.specs.past.Past.{KnownItem}
use Rattle.mc_core.specs.model.State.{item_at}
use Rattle.mc_words.specs.hand.View.{View}
use Rattle.mc_mover.specs.Saving.{Rescues}

-- the item went from the one chunk to the other, under its key and with its stamp
pub record KeepsItem (chunk copy : ChunkId) (item : List ℕ) (value left : ReadyStripe) (view now : View) : Type 0 where
  -- the item's key led to the one chunk, and leads to the other
  pub led : chunk_and_stamp value.state (key_of item) ≡ Some (chunk, stamp_in_words item)
  pub leads : chunk_and_stamp left.state (key_of item) ≡ Some (copy, stamp_in_words item)
  -- the hand held the copy with just the item's words
  pub known : KnownItem
  pub is_copy : known.chunk ≡ copy
  pub has_words : known.words ≡ item
  pub come : now.row.knows.known ≡ view.row.knows.known ++ known ∷ []

-- each rescue keeps the item that memory had in the original as the rescue took it away
abbrev pub RescuesKeepItems : Type 0
RescuesKeepItems = (number stripe : ℕ) (chunk : ChunkId) (slabs : SlabState) (value : ReadyStripe) (view : View) (kept : SlabState) (left : ReadyStripe) (now : View) →
    (rescues : Rescues number stripe chunk slabs value view kept left now) → KeepsItem chunk rescues.copy (item_at rescues.moves.condemns.happens.was.moment.state chunk) value left view now
