-- What clauses of other crates read of hands, and of what a call of the arena gives.
use Rattle.std.specs.Prelude.{◌≡◌, ℕ, slice_index_or, Option, Some, None}
use Rattle.mc_pages.specs.declared.ids.ChunkId.{ChunkId}
use Rattle.mc_pages.specs.SlabState.{SlabState}
use Rattle.mc_stripe.specs.StripeState.{ReadyStripe}
use Rattle.mc_core.specs.past.Past.{last_of}
use Rattle.mc_words.specs.declared.hand.Hand.{Hand}
use Rattle.mc_words.specs.declared.hand.held.Fresh.{Fresh}
use Rattle.mc_words.specs.declared.hand.held.SlabsHeld.{SlabsHeld}
use Rattle.mc_words.specs.declared.hand.held.StripeHeld.{StripeHeld}
use Rattle.mc_words.specs.declared.lock.locks.Locks.{Locks}
use Rattle.mc_words.specs.declared.item.refs.Hint.{Hint}
use Rattle.mc_words.specs.declared.item.refs.Ref.{Ref}
use Rattle.mc_words.specs.hand.Arenas.{view}
use Rattle.mc_words.specs.hand.View.{View}

-- which locks the hand has
abbrev pub locks_of : Hand → Locks
locks_of hand = hand.locks

-- the hand's number, with which it makes its stamps
abbrev pub hand_number : Hand → ℕ
hand_number hand = hand.number

-- pages and lists, as their holder has them
abbrev pub slabs_lent : SlabsHeld → SlabState
slabs_lent held = held.shared

-- which stripe is held: its number, counted from 0
abbrev pub stripe_number : StripeHeld → ℕ
stripe_number held = held.number

-- the stripe with its room, as the holder of its lock has it
abbrev pub stripe_lent : StripeHeld → ReadyStripe
stripe_lent held = held.stripe

-- the hand has the lock of the slabs, and these pages and lists behind it
abbrev pub HasSlabs : Hand → SlabsHeld → Type 0
HasSlabs hand held = (view hand).slabs ≡ Some (slabs_lent held)

-- the hand has the lock of this stripe, and this value behind it
abbrev pub HasStripe : Hand → StripeHeld → Type 0
HasStripe hand held = slice_index_or (view hand).stripes (stripe_number held) None ≡ Some (stripe_lent held)

-- the value of this stripe as the hand last took it; none where the hand never took it
abbrev pub last_taken : View → ℕ → Option ReadyStripe
last_taken view stripe = (last_of stripe view.row.knows.hold.stripes).found

-- the value of this stripe as the hand last gave it back; none where the hand never did
abbrev pub last_given : View → ℕ → Option ReadyStripe
last_given view stripe = (last_of stripe view.row.knows.hold.stripes).left

-- which chunk it is that the hand fills
abbrev pub fresh_chunk : Fresh → ChunkId
fresh_chunk fresh = fresh.chunk

-- how many words a fresh chunk has
abbrev pub fresh_room : Fresh → ℕ
fresh_room fresh = fresh.room

-- the word that was written at place 0 of a fresh chunk, an item's key; 0 before
abbrev pub fresh_key : Fresh → ℕ
fresh_key fresh = fresh.key

-- the word that was written at place 1 of a fresh chunk, an item's stamp; 0 before
abbrev pub fresh_stamp : Fresh → ℕ
fresh_stamp fresh = fresh.stamp

-- the chunk of a reference
abbrev pub ref_chunk : Ref → ChunkId
ref_chunk reference = reference.chunk

-- the issue number with which the chunk of a reference was handed out
abbrev pub ref_issue : Ref → ℕ
ref_issue reference = reference.issue

-- how many words the chunk of a reference has
abbrev pub ref_room : Ref → ℕ
ref_room reference = reference.room

-- the chunk of a hint
abbrev pub hint_chunk : Hint → ChunkId
hint_chunk hint = hint.chunk

-- the issue number with which the chunk of a hint was handed out for its item
abbrev pub hint_issue : Hint → ℕ
hint_issue hint = hint.issue
