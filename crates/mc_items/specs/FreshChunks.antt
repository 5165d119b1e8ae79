-- What clauses state of a fresh chunk of the hand: what it is for, and how it is stored.
use Rattle.std.specs.Prelude.{◌≡◌, ℕ, List}
use Rattle.mc_core.specs.model.State.{room_in}
use Rattle.mc_words.specs.declared.hand.Hand.{Hand}
use Rattle.mc_words.specs.declared.hand.held.Fresh.{Fresh}
use Rattle.mc_words.specs.declared.hand.held.StripeHeld.{StripeHeld}
use Rattle.mc_words.specs.declared.item.refs.Hint.{Hint}
use Rattle.mc_words.specs.declared.item.refs.Ref as words
use Rattle.mc_words.specs.hand.Arenas.{view}
use Rattle.mc_words.specs.item.Fresh.{IsFreshOf}
use Rattle.mc_words.specs.item.Items.{issue_in, item_with, known_words_in}
use Rattle.mc_words.specs.item.Links.{IsItemFilled}
use Rattle.mc_words.specs.hand.Observers.{fresh_chunk, fresh_room, hint_chunk, hint_issue, ref_chunk, ref_issue, ref_room, stripe_lent, stripe_number}
use Rattle.mc_words.specs.hand.View.{Setup, View}
use Rattle.mc_words.specs.hand.Views.{chunk_discarded, stripe_given}
use Rattle.mc_items.specs.OnKeys.{stripe_of_key}
use Rattle.mc_items.specs.Storing.{LeavesDead, RefusesStore, StoresItem, item_filled}
use Rattle.mc_items.specs.declared.comparing.Expected.{Expected}
use Rattle.mc_items.specs.declared.storing.StoreError.{StoreError}

-- the fresh chunk is the hand's, and has the room of chunks of the class
abbrev pub IsFreshFor : Setup → ℕ → View → Fresh → Type 0
IsFreshFor setup class view fresh = (fresh_room fresh ≡ room_in setup.table class) × IsFreshOf view (fresh_chunk fresh) (fresh_room fresh)

-- the hand filled the fresh chunk with a whole item of this key and stamp
abbrev pub IsFilledWith : View → Fresh → ℕ → ℕ → Type 0
IsFilledWith view fresh key stamp = IsItemFilled view (fresh_chunk fresh) (issue_in view (fresh_chunk fresh)) (known_words_in view (fresh_chunk fresh)) key stamp

-- the view after the hand wrote the item of these words into the fresh chunk
abbrev pub filled_with : Fresh → ℕ → ℕ → List ℕ → View → View
filled_with fresh key stamp words view = item_filled (fresh_chunk fresh) (item_with key stamp words) view

-- the item that the fresh chunk was filled with was stored under its key, which had what was expected
abbrev pub StoresFresh : Expected → Setup → ℕ → ℕ → Fresh → ℕ → View → View → Type 0
StoresFresh expected setup key stamp fresh number filled now = StoresItem expected number (stripe_of_key setup key) key stamp (fresh_chunk fresh) (fresh_room fresh) filled now

-- the stripe didn't take the store for this reason, and the hand gave the chunk up
abbrev pub LosesFresh : StoreError → Expected → Setup → ℕ → Fresh → View → View → Type 0
LosesFresh error expected setup key fresh filled now = LeavesDead (RefusesStore error expected key) (stripe_of_key setup key) (fresh_chunk fresh) filled now

-- the reference is to this chunk, as the hand got and filled it
abbrev pub IsRefInto : View → Fresh → words.Ref → Type 0
IsRefInto view fresh r = (ref_chunk r ≡ fresh_chunk fresh) × (ref_issue r ≡ issue_in view (fresh_chunk fresh)) × (ref_room r ≡ fresh_room fresh)

-- the hint is of this chunk, as the hand got it
abbrev pub IsHintInto : View → Fresh → Hint → Type 0
IsHintInto view fresh hint = (hint_chunk hint ≡ fresh_chunk fresh) × (hint_issue hint ≡ issue_in view (fresh_chunk fresh))

-- the stripe's lock was given back, and the chunk given up
abbrev pub GivesBackBoth : Hand → StripeHeld → Fresh → Hand → Type 0
GivesBackBoth before held fresh now = view now ≡ chunk_discarded (fresh_chunk fresh) (stripe_given (stripe_number held) (stripe_lent held) (view before))
