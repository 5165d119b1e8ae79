-- What a hand finds behind a lock that it takes.
use Rattle.std.specs.Prelude.{◌≡◌, ◌==◌, ℕ, ◌%◌, List, [], filter, slice_get, slice_index_or, unwrap_or, Some, None, All}
use Rattle.mc_pages.specs.declared.ids.ChunkId.{ChunkId}
use Rattle.mc_pages.specs.ClassState.{times_in}
use Rattle.mc_pages.specs.SlabState.{SlabState, class_of_chunk}
use Rattle.mc_stripe.specs.StripeState.{ReadyStripe, new_stripe, chunk_and_stamp}
use Rattle.mc_stripe.specs.declared.history.Call.{Call}
use Rattle.mc_stripe.specs.Legal.{IsLegal}
use Rattle.mc_core.specs.law.Histories.{IsBeginning, hand_of}
use Rattle.mc_core.specs.past.Past.{Own}
use Rattle.mc_core.specs.model.InOrder.{IsOfTable}
use Rattle.mc_words.specs.hand.View.{View}

-- the pages and lists are the hand's, are whole, and agree with what the hand holds
pub record IsLent (view : View) (slabs : SlabState) : Type 0 where
  pub mine : view.slabs ≡ Some slabs
  -- the pages and lists are of the arena's classes and limit, and every page and every chunk is accounted for
  pub accounted : IsOfTable view.setup.table slabs
  -- no page is half cut
  pub whole : slabs.uncut ≡ None
  -- each chunk that the hand holds is once in the hand-out order of its class
  pub kept : All (λ holding. times_in holding.chunk (class_of_chunk slabs holding.chunk).order ≡ 1) view.row.holdings

-- a stripe is the hand's, is whole, and has keys of its own alone
pub record IsLentStripe (view : View) (number : ℕ) (stripe : ReadyStripe) : Type 0 where
  pub mine : slice_index_or view.stripes number None ≡ Some stripe
  -- the stripe's history is legal, and makes the stripe's index
  pub legal : IsLegal stripe.state
  -- no entry is aside
  pub whole : stripe.state.aside ≡ None
  -- each key that leads somewhere is one of the stripe's
  pub keys : (key : ℕ) (place : ChunkId × ℕ) → chunk_and_stamp stripe.state key ≡ Some place → key % view.setup.config.stripes ≡ number
  -- for each number of the hand, the hand's own calls are the history's calls of that number
  pub own : All (λ (own : Own). slice_index_or own.calls number [] ≡ filter (λ call. hand_of call == own.number) stripe.state.history) view.row.knows.mine

-- the history that was found begins with all that the hand had seen of it
abbrev pub BeginsWithSeen : View → ℕ → ReadyStripe → Type 0
BeginsWithSeen view number stripe = (seen : List Call) → slice_get view.row.knows.seen number ≡ Some seen → IsBeginning seen stripe.state.history

-- the stripe of this number that the hand has; a new one where the hand hasn't the stripe's lock
abbrev pub lent_stripe : View → ℕ → ReadyStripe
lent_stripe view number = unwrap_or (slice_index_or view.stripes number None) new_stripe
