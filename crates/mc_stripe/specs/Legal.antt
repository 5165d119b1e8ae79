-- What holds of a stripe after every call: its history is legal, and makes its index.
use Rattle.std.specs.Prelude.{◌≡◌, ◌≤◌, ℕ, [], length, Some, None}
use Rattle.mc_pages.specs.declared.ids.ChunkId.{ChunkId}
use Rattle.mc_stripe.specs.Entries.{AreRising}
use Rattle.mc_stripe.specs.History.{stamps_after_calls}
use Rattle.mc_stripe.specs.StripeState.{StripeState, chunk_and_stamp, stamps_of, trimmed_of}

-- the history is right, from no key on, and leaves the stamps of the index, an entry aside counted in
pub record IsLegal (stripe : StripeState) : Type 0 where
  -- the index is by rising key, which is its one form
  pub rising : AreRising stripe.index
  -- the key aside is not in the index
  pub apart : (entry : ℕ × (ChunkId × ℕ)) → stripe.aside ≡ Some entry → chunk_and_stamp stripe entry.0 ≡ None
  -- each reply of the history is right, and what all calls leave are the stamps of the keys
  pub replayed : stamps_after_calls [] stripe.history ≡ Some (stamps_of stripe)
  -- no more calls are trimmed than there were
  pub trimmed : trimmed_of stripe ≤ length stripe.history
