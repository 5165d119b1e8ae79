use Rattle.std.proofs.Common.{◌≡◌, ◌%◌, ℕ, false, length, None, Some, slice_index_or}
use Rattle.mc_core.specs.model.Holdings.{has_fresh}
use Rattle.mc_pages.specs.declared.ids.ChunkId.{ChunkId}
use Rattle.mc_stripe.specs.Entries.{AreRising}
use Rattle.mc_stripe.specs.StripeState.{chunk_and_stamp}
use Rattle.mc_words.specs.hand.Arenas.{IsHandOf, setup_of, view}
use Rattle.mc_items.specs.Clearing.{DeletesSome}
use Rattle.mc_items.proofs.clearing.delete_keys.Given as goal

-- some keys were deleted, and the others are of the stripe still
abbrev pub invariant-loop-key : goal.invariant-loop-key
invariant-loop-key l = record {
  arena : IsHandOf l.arena l.hand;
  locks : l.hand.locks ≡ l.fn.hand.locks;
  number : l.hand.number ≡ l.fn.hand.number;
  same : l.held.number ≡ l.fn.held.number;
  mine : slice_index_or (view l.hand).stripes l.held.number None ≡ Some l.held.stripe;
  aside : l.held.stripe.state.aside ≡ None;
  fresh : has_fresh (view l.hand).row.holdings ≡ false;
  rising : AreRising l.held.stripe.state.index;
  keys : (key : ℕ) (place : ChunkId × ℕ) → chunk_and_stamp l.held.stripe.state key ≡ Some place → key % (setup_of l.arena).config.stripes ≡ l.held.number;
  done : DeletesSome l.fn.hand.number l.fn.held.number l.fn.held.stripe (view l.fn.hand) l.held.stripe (view l.hand);
}

-- one key fewer is left
abbrev pub decreases-loop-key : goal.decreases-loop-key
decreases-loop-key l = length l.held.stripe.state.index
