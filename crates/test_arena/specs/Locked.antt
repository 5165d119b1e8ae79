-- What a hand knows of an item that it is to take away, under the lock of its key's stripe.
use Rattle.std.specs.Prelude.{◌≡◌, ◌<◌, ℕ, true, None, Some}
use Rattle.mc_pages.specs.declared.ids.ChunkId.{ChunkId}
use Rattle.mc_stripe.specs.StripeState.{chunk_and_stamp}
use Rattle.mc_core.specs.model.Looks.{was_linked}
use Rattle.mc_core.specs.model.State.{has_chunk}
use Rattle.mc_words.specs.declared.arena.Arena.{Arena}
use Rattle.mc_words.specs.declared.hand.Hand.{Hand}
use Rattle.mc_words.specs.declared.hand.held.StripeHeld.{StripeHeld}
use Rattle.mc_words.specs.hand.Arenas.{setup_of, view}
use Rattle.mc_words.specs.hand.Observers.{HasStripe, stripe_lent, stripe_number}
use Rattle.mc_words.specs.item.Removal.{stripe_read}
use Rattle.mc_words.specs.lock.Lent.{IsLentStripe}

-- the stripe is one of the arena's, and that of the key which the hand read in the chunk
pub record IsKeysStripe (arena : Arena) (hand : Hand) (held : StripeHeld) (chunk : ChunkId) : Type 0 where
  pub in_range : has_chunk (setup_of arena).table chunk ≡ true
  pub inside : stripe_number held < (setup_of arena).config.stripes
  pub key : stripe_read (view hand) chunk ≡ Some (stripe_number held)

-- the hand was lent the stripe of the chunk's key, where a key leads to the chunk, and the hand saw the chunk linked
pub record KeyLeadsTo (arena : Arena) (hand : Hand) (held : StripeHeld) (chunk : ChunkId) : Type 0 where
  pub of_key : IsKeysStripe arena hand held chunk
  pub lent : IsLentStripe (view hand) (stripe_number held) (stripe_lent held)
  pub leads : (key : ℕ) × (stamp : ℕ) × (chunk_and_stamp (stripe_lent held).state key ≡ Some (chunk, stamp))
  pub linked : was_linked (view hand).row.looks chunk ≡ true

-- the hand has the stripe of the chunk's key, which has room for a call and nothing aside
pub record MayTakeAway (arena : Arena) (hand : Hand) (held : StripeHeld) (chunk : ChunkId) : Type 0 where
  pub of_key : IsKeysStripe arena hand held chunk
  pub mine : HasStripe hand held
  pub ready : (stripe_lent held).ready ≡ true
  pub empty : (stripe_lent held).state.aside ≡ None
