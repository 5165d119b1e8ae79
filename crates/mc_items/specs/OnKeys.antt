-- What clauses state of a call on a key: of the hand, and of what was lent to it, before and after.
use Rattle.std.specs.Prelude.{◌≡◌, ◌≢◌, ℕ, ◌%◌, Bool, is_some, List, Option, Some, Contains}
use Rattle.std.specs.Option.{option_map}
use Rattle.mc_stripe.specs.declared.history.Call.{Call}
use Rattle.mc_stripe.specs.declared.history.Call.TheVariants as call
use Rattle.mc_core.specs.model.Holdings.{key_of, stamp_in_words}
use Rattle.mc_core.specs.past.Past.{KnownItem}
use Rattle.mc_words.specs.declared.hand.Hand.{Hand}
use Rattle.mc_words.specs.declared.hand.held.SlabsHeld.{SlabsHeld}
use Rattle.mc_words.specs.declared.hand.held.StripeHeld.{StripeHeld}
use Rattle.mc_words.specs.declared.item.refs.Hint.{Hint}
use Rattle.mc_words.specs.declared.item.refs.Ref as words
use Rattle.mc_words.specs.hand.Arenas.{view}
use Rattle.mc_words.specs.lock.Doing.{Doing, UsesRoomForCall, UsesRoomForEntry, SlabsDoing, HoldsSlabs}
use Rattle.mc_words.specs.item.Again.{GetsAgain}
use Rattle.mc_words.specs.item.Items.{held_item}
use Rattle.mc_words.specs.hand.Observers.{hint_chunk, hint_issue, hand_number, ref_chunk, ref_issue, ref_room, slabs_lent, stripe_lent, stripe_number}
use Rattle.mc_words.specs.item.Refs.{IsIssueOf, IsRefOf}
use Rattle.mc_words.specs.chunk.Sweeps.{with_seen}
use Rattle.mc_words.specs.hand.View.{Setup, View}
use Rattle.mc_words.specs.hand.Views.{stripe_given, stripe_missed}
use Rattle.mc_items.specs.declared.refs.Ref.{Ref}
use Rattle.mc_items.specs.Calls.{CallsOn, LooksUp, OnlyWaits, RecordsCall}
use Rattle.mc_items.specs.ItemRefs.{item_chunk, item_reference}
use Rattle.mc_items.specs.Reading.{AndReads}

-- the stripe of a key
abbrev pub stripe_of_key : Setup → ℕ → ℕ
stripe_of_key setup key = key % setup.config.stripes

-- what the hand of a number does on a stripe
abbrev pub KeyDoing : Type 1
KeyDoing = ℕ → ℕ → Doing

-- the hand waited for the lock of the key's stripe, did this there, and gave the lock back
abbrev pub ActsOn : Setup → ℕ → KeyDoing → Hand → Hand → Type 0
ActsOn setup key Does before now = CallsOn (hand_number before) (stripe_of_key setup key) (Does (hand_number before) (stripe_of_key setup key)) (view before) (view now)

-- the hand looked the key up under its stripe's lock, and read key, stamp and length of the item, if it got one
abbrev pub Gets : Setup → ℕ → Option Ref → Hand → Hand → Type 0
Gets setup key found before now =
    let number = hand_number before in
    let stripe = stripe_of_key setup key in
    AndReads (option_map item_chunk found) (CallsOn number stripe (LooksUp number stripe key (option_map item_reference found))) (view before) (view now)

-- the hand waited for the lock of the key's stripe, found no room for a call, and gave the lock back
abbrev pub FindsNoRoomFor : Setup → ℕ → Hand → Hand → Type 0
FindsNoRoomFor setup key before now = OnlyWaits (stripe_of_key setup key) (view before) (view now)

-- the hand found the lock of the key's stripe with another hand, and did nothing
abbrev pub FindsStripeHeld : Setup → ℕ → Hand → Hand → Type 0
FindsStripeHeld setup key before now = (word : ℕ) × (word ≢ 0) × (view now ≡ stripe_missed (stripe_of_key setup key) word (view before))

-- the hand's own calls on keys of the key's stripe got this call, as the last, and no other call came
abbrev pub RecordsOn : Setup → ℕ → (ℕ → Call) → Hand → Hand → Type 0
RecordsOn setup key call before now = RecordsCall (hand_number before) (stripe_of_key setup key) (call (hand_number before)) (view before) (view now)

-- with a stripe's lock the hand made room for a call, did this, and gave the lock back
abbrev pub DoesOn : KeyDoing → Hand → StripeHeld → Hand → Type 0
DoesOn doing before held now = UsesRoomForCall (hand_number before) (stripe_number held) (stripe_lent held) (doing (hand_number before) (stripe_number held)) (view before) (view now)

-- with a stripe's lock the hand made room for a call and an entry, did this, and gave the lock back
abbrev pub StoresOn : KeyDoing → Hand → StripeHeld → Hand → Type 0
StoresOn doing before held now = UsesRoomForEntry (hand_number before) (stripe_number held) (stripe_lent held) (doing (hand_number before) (stripe_number held)) (view before) (view now)

-- with a stripe's lock the hand gave the lock back, and did nothing
abbrev pub GivesBack : Hand → StripeHeld → Hand → Type 0
GivesBack before held now = view now ≡ stripe_given (stripe_number held) (stripe_lent held) (view before)

-- with a stripe's lock the hand looked the key up and gave the lock back; then it read key, stamp and length of the item, if it got one
abbrev pub GetsAt : StripeHeld → ℕ → Option Ref → Hand → Hand → Type 0
GetsAt held key found before now =
    let number = hand_number before in
    let stripe = stripe_number held in
    AndReads (option_map item_chunk found) (UsesRoomForCall number stripe (stripe_lent held) (LooksUp number stripe key (option_map item_reference found))) (view before) (view now)

-- the hand's own calls on keys of the held stripe got this call, as the last, and no other call came
abbrev pub RecordsAt : StripeHeld → (ℕ → Call) → Hand → Hand → Type 0
RecordsAt held call before now = RecordsCall (hand_number before) (stripe_number held) (call (hand_number before)) (view before) (view now)

-- the hand's own calls got a get of the key, which found a stamp or none, and no other call
abbrev pub RecordsGet : Setup → ℕ → Bool → Hand → Hand → Type 0
RecordsGet setup key there before now = (stamp : Option ℕ) × (is_some stamp ≡ there) × RecordsOn setup key (λ number. call.Get number key stamp) before now

-- the hand refers to an item of this key
abbrev pub IsRefToKey : View → ℕ → words.Ref → Type 0
IsRefToKey view key r = IsRefOf view (ref_chunk r) (ref_room r) × IsIssueOf view (ref_chunk r) (ref_issue r) × (key_of (held_item view (ref_chunk r)) ≡ key)

-- the stamp of the item that is referred to
abbrev pub stamp_there : View → words.Ref → ℕ
stamp_there view r = stamp_in_words (held_item view (ref_chunk r))

-- the hand got the item of a hint by the hint, and read key, stamp and length of the item
abbrev pub GetsByHint : Hint → Ref → View → View → Type 0
GetsByHint hint item view now = AndReads (Some (hint_chunk hint)) (λ view now. GetsAgain view (hint_chunk hint) (hint_issue hint) (ref_room (item_reference item)) now) view now

-- where the hand knew an item with the chunk and issue of the hint, that item's words are these
abbrev pub IsAsKnown : View → Hint → List ℕ → Type 0
IsAsKnown view hint words = (k : KnownItem) → Contains view.row.knows.known k → k.chunk ≡ hint_chunk hint → k.issue ≡ hint_issue hint → words ≡ k.words

-- with the lock of the slabs the hand did this
abbrev pub Acts : SlabsDoing → Hand → SlabsHeld → Hand → SlabsHeld → Type 0
Acts doing before found now left = doing (view before) (slabs_lent found) (view now) (slabs_lent left)

-- the hand took the slabs lock, did this, and gave the lock back, once
abbrev pub ActsOnce : SlabsDoing → Hand → Hand → Type 0
ActsOnce doing before now = HoldsSlabs doing (view before) (view now)

-- pages and lists are as they were
abbrev pub AreUnchanged : SlabsHeld → SlabsHeld → Type 0
AreUnchanged found left = slabs_lent left ≡ slabs_lent found

-- the hand saw more, and has other pages and lists; all else is as before
abbrev pub SeesMore : Hand → Hand → Type 0
SeesMore before now = view now ≡ with_seen (view before) (view now)
