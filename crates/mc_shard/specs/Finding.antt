-- What is found under a hash: the words of an item, and whether they are a packing of a key.
use Rattle.std.specs.Prelude.{◌≡◌, ◌≢◌, ◌⊎◌, ℕ, Bool, false, List, [], ◌∷◌, ◌++◌, Option, None, Some, IfSome}
use Rattle.std.specs.Option.{option_map}
use Rattle.mc_packing.specs.Packing.{IsPackingOf, packed_item}
use Rattle.mc_words.specs.declared.arena.Arena.{Arena}
use Rattle.mc_words.specs.declared.hand.Hand.{Hand}
use Rattle.mc_words.specs.hand.Arenas.{setup_of, view}
use Rattle.mc_words.specs.item.Again.{FindsContended, FindsGone}
use Rattle.mc_words.specs.item.Items.{item_with}
use Rattle.mc_words.specs.declared.item.refs.Hint.{Hint}
use Rattle.mc_words.specs.hand.Observers.{hint_chunk, hint_issue, hand_number}
use Rattle.mc_words.specs.hand.View.{Setup, View}
use Rattle.mc_words.specs.hand.Views.{chunk_released}
use Rattle.mc_words.specs.lock.Doing.{HoldsSlabs}
use Rattle.mc_items.specs.declared.refs.Ref.{Ref}
use Rattle.mc_items.specs.Current.{GetsCurrent}
use Rattle.mc_items.specs.ItemRefs.{item_chunk, item_key, item_stamp, item_words}
use Rattle.mc_items.specs.OnKeys.{ActsOn, FindsNoRoomFor, FindsStripeHeld, Gets}
use Rattle.mc_items.specs.Calls.{Bumps, Deletes}
use Rattle.mc_items.specs.Keeping.{holding_by}
use Rattle.mc_shard.specs.Hands.{WereStored, items_stored_by}
use Rattle.mc_shard.specs.Newest.{IsNewestOwn}
use Rattle.mc_shard.specs.Reading.{RefersTo}

-- the hand got the item of this hash by a hint, with no lock. It was the hash's current item at the exchange by which the hand got it
abbrev pub GetsHinted : ℕ → Option Ref → Hand → Hand → Type 0
GetsHinted hash None before got = ⊥
GetsHinted hash (Some item) before got = (hint : Hint) × GetsCurrent hint item (view before) (view got) × (item_key item ≡ hash)

-- the hand got what is under the hash: by the lock of its stripe, or by a hint
abbrev pub GetsUnder : Setup → ℕ → Option Ref → Hand → Hand → Type 0
GetsUnder setup hash item before got = Gets setup hash item before got ⊎ GetsHinted hash item before got

-- a hint led to nothing: its item is gone, other hands changed its header meanwhile, or the item is of another hash and was released
abbrev pub FollowsInVain : Hint → ℕ → View → View → Type 0
FollowsInVain hint hash view now =
    FindsGone view (hint_chunk hint) (hint_issue hint) now
    ⊎ FindsContended view (hint_chunk hint) (hint_issue hint) now
    ⊎ ((got : View) × (item : Ref) × GetsCurrent hint item view got × (item_key item ≢ hash) × (now ≡ chunk_released (item_chunk item) got))

-- the hand tried a hint of the hash in vain, or had none
pub record TriesHint (hash : ℕ) (before tried : Hand) : Type 0 where
  pub number : hand_number tried ≡ hand_number before
  pub did : (view tried ≡ view before) ⊎ ((hint : Hint) × FollowsInVain hint hash (view before) (view tried))

-- the hand got the item under the hash, perhaps after a hint led to nothing, and these are its words, which some hand stored with its
-- stamp; or there was none. An item of the hand's own is the newest that the hand stored under the hash
pub record FindsWords (setup : Setup) (hash : ℕ) (before : Hand) (words : Option (List ℕ)) : Type 0 where
  pub tried : Hand
  pub tries : TriesHint hash before tried
  pub got : Hand
  pub item : Option Ref
  pub gets : GetsUnder setup hash item tried got
  pub words_are : words ≡ option_map (item_words (view got)) item
  pub stored : IfSome item (λ item. IfSome words (λ words. WereStored setup (items_stored_by before) (item_stamp item) (item_with hash (item_stamp item) words)))
  pub newest : IfSome item (λ item. IsNewestOwn setup hash (item_stamp item) (view before).row.knows.mine)

-- some item was under the hash
abbrev pub FindsSome : Setup → ℕ → Hand → Type 0
FindsSome setup hash before = (words : List ℕ) × FindsWords setup hash before (Some words)

-- the hand perhaps tried a hint in vain, and then found that the hash's stripe records its calls and has no room for one more
pub record FindsFull (setup : Setup) (hash : ℕ) (before now : Hand) : Type 0 where
  pub tried : Hand
  pub tries : TriesHint hash before tried
  pub full : FindsNoRoomFor setup hash tried now

-- the hand perhaps tried a hint in vain, and then found the lock of the hash's stripe with another hand
pub record FindsLockTaken (setup : Setup) (hash : ℕ) (before now : Hand) : Type 0 where
  pub tried : Hand
  pub tries : TriesHint hash before tried
  pub held : FindsStripeHeld setup hash tried now

-- the hand got this item under the hash, whose words some hand stored, and holds nothing else
pub record FindsItem (arena : Arena) (hash : ℕ) (item : Ref) (before got : Hand) : Type 0 where
  pub finds : FindsWords (setup_of arena) hash before (Some (item_words (view got) item))
  pub is_item : finds.item ≡ Some item
  pub refers : RefersTo arena item got
  pub alone : (view got).row.holdings ≡ holding_by (view got) item ∷ []

-- the item under the hash is of this key and this value
abbrev pub FindsValue : Setup → ℕ → List ℕ → List ℕ → Hand → Type 0
FindsValue setup hash key value before = FindsWords setup hash before (Some (packed_item key value))

-- the words are the packing of the key and a value, which was added behind the old bytes
abbrev pub PutsValue : List ℕ → List ℕ → List ℕ → List ℕ → Type 0
PutsValue key words old new = (value : List ℕ) × (words ≡ packed_item key value) × (new ≡ old ++ value)

-- the item under the hash is of this key and a value, which was added behind the old bytes
abbrev pub ReturnsValue : Setup → ℕ → List ℕ → Hand → List ℕ → List ℕ → Type 0
ReturnsValue setup hash key before old new = (value : List ℕ) × FindsValue setup hash key value before × (new ≡ old ++ value)

-- the item under the hash is of this key, with some value
abbrev pub FindsKey : Setup → ℕ → List ℕ → Hand → Type 0
FindsKey setup hash key before = (value : List ℕ) × FindsValue setup hash key value before

-- no item is under the hash, or one of another key
pub record FindsOtherKey (setup : Setup) (hash : ℕ) (key : List ℕ) (before : Hand) : Type 0 where
  pub words : Option (List ℕ)
  pub finds : FindsWords setup hash before words
  pub other : IfSome words (λ words. ¬ IsPackingOf key words)

-- the item under the hash was of this key; then the hash was deleted, if its item was still there
pub record DeletesKey (setup : Setup) (hash : ℕ) (key : List ℕ) (there : Bool) (before now : Hand) : Type 0 where
  pub finds : FindsKey setup hash key before
  pub between : Hand
  pub deletes : ActsOn setup hash (λ number stripe. Deletes number stripe hash there) between now

-- by the hand of this number the item's chunk went to the back of its hand-out order, under the slabs lock, and was released
pub record BumpsItem (number : ℕ) (item : Ref) (now : Hand) : Type 0 where
  pub read : Hand
  pub bumped : View
  pub bumps : HoldsSlabs (Bumps number (item_chunk item)) (view read) bumped
  pub released : view now ≡ chunk_released (item_chunk item) bumped

-- the item under the hash is of this key and this value, and became the newest of its class
pub record TouchesValue (setup : Setup) (hash : ℕ) (key value : List ℕ) (before now : Hand) : Type 0 where
  pub finds : FindsValue setup hash key value before
  pub item : Ref
  pub is_item : finds.item ≡ Some item
  pub bumps : BumpsItem (hand_number before) item now

-- the item under the hash is of this key, with some value, and became the newest of its class
abbrev pub TouchesKey : Setup → ℕ → List ℕ → Hand → Hand → Type 0
TouchesKey setup hash key before now = (value : List ℕ) × TouchesValue setup hash key value before now

-- no item under the hash was of this key, or it was gone when the hand came to delete it
abbrev pub DeletesNone : Setup → ℕ → List ℕ → Hand → Hand → Type 0
DeletesNone setup hash key before now = FindsOtherKey setup hash key before ⊎ DeletesKey setup hash key false before now
