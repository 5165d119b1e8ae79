-- The keys of the items of a stripe: the stripe's hashes are listed in one hold of its lock, and then each is looked up.
use Rattle.std.specs.Prelude.{◌≡◌, ◌<◌, ◌⊎◌, ℕ, zero, suc, List, [], ◌++◌, length, map, Option, Some, None, IfSome, slice_index, Vec}
use Rattle.std.specs.Global.{Global}
use Rattle.std.specs.Option.{option_to_list}
use Rattle.mc_packing.specs.Packing.{AreBytes, IsPackingOf}
use Rattle.mc_words.specs.declared.hand.Hand.{Hand}
use Rattle.mc_words.specs.hand.Arenas.{view}
use Rattle.mc_words.specs.hand.View.{Setup}
use Rattle.mc_words.specs.lock.Wait.{MissesStripeEachTime}
use Rattle.mc_items.specs.Calls.{FindsStripe}
use Rattle.mc_items.specs.Listing.{HasKeysPut}
use Rattle.mc_shard.specs.Finding.{FindsKey, FindsWords}
use Rattle.mc_shard.specs.Recording.{RecordsGetAtMost}
use Rattle.mc_shard.specs.Within.{MissesLock}

-- no item is under the hash, or one whose words are a packing of no key
pub record FindsNoKey (setup : Setup) (hash : ℕ) (before : Hand) : Type 0 where
  pub words : Option (List ℕ)
  pub finds : FindsWords setup hash before words
  pub none : IfSome words (λ words. (key : List ℕ) → AreBytes key → ¬ IsPackingOf key words)

-- the item under the hash was of this key; or no item with a key was there
abbrev pub ShowsKey : Setup → ℕ → Option (List ℕ) → Hand → Type 0
ShowsKey setup hash (Some key) before = FindsKey setup hash key before
ShowsKey setup hash None before = FindsNoKey setup hash before

-- the bytes of each key
abbrev pub bytes_of_keys : List (Vec ℕ Global) → List (List ℕ)
bytes_of_keys keys = map (λ key. key.items) keys

-- a look at what is under the hash: the key of the item that was there, or none
pub record LooksForKey (setup : Setup) (hash : ℕ) (found : Option (List ℕ)) (before now : Hand) : Type 0 where
  pub shows : ShowsKey setup hash found before
  pub calls : RecordsGetAtMost setup hash before now

-- the hand looked each of the first n hashes up, in turn, and these are the keys of the items that it found
abbrev pub LooksUpFirst : Setup → List ℕ → ℕ → List (List ℕ) → Hand → Hand → Type 0
LooksUpFirst setup hashes zero keys before now = (keys ≡ []) × (now ≡ before)
LooksUpFirst setup hashes (suc place) keys before now =
    (others : List (List ℕ)) × (next : Hand) × (found : Option (List ℕ))
    × LooksUpFirst setup hashes place others before next
    × LooksForKey setup (slice_index hashes place) found next now
    × (keys ≡ others ++ option_to_list found)

-- the hashes of the stripe were listed in one hold of its lock, each once; then each was looked up, and the keys that were found came behind the
-- old ones
pub record ListsStripe (setup : Setup) (stripe : ℕ) (old new : List (List ℕ)) (before now : Hand) : Type 0 where
  pub hashes : List ℕ
  pub between : Hand
  pub lists : FindsStripe (HasKeysPut [] hashes) stripe (view before) (view between)
  pub keys : List (List ℕ)
  pub looks : LooksUpFirst setup hashes (length hashes) keys between now
  pub put : new ≡ old ++ keys

-- the hand put this key behind the old ones, or none
pub record PutsKey (setup : Setup) (hash : ℕ) (old new : List (List ℕ)) (before now : Hand) : Type 0 where
  pub found : Option (List ℕ)
  pub looks : LooksForKey setup hash found before now
  pub put : new ≡ old ++ option_to_list found

-- some keys were put behind the old ones
pub record PutsSome (old new : List (List ℕ)) : Type 0 where
  pub keys : List (List ℕ)
  pub put : new ≡ old ++ keys

-- the hand looked the first of these hashes up, in turn, and at the look of the next one each try for the lock of its stripe missed
pub record MissesLook (setup : Setup) (tries : ℕ) (hashes : List ℕ) (before now : Hand) : Type 0 where
  -- how many hashes were looked up
  pub place : ℕ
  pub in_range : place < length hashes
  pub keys : List (List ℕ)
  pub between : Hand
  pub looks : LooksUpFirst setup hashes place keys before between
  pub missed : MissesLock setup tries (slice_index hashes place) between now

-- the hashes of the stripe were listed in one hold of its lock, each once, and then the look of one of them missed the lock
pub record StopsLooking (setup : Setup) (tries stripe : ℕ) (before now : Hand) : Type 0 where
  pub hashes : List ℕ
  pub between : Hand
  pub lists : FindsStripe (HasKeysPut [] hashes) stripe (view before) (view between)
  pub misses : MissesLook setup tries hashes between now

-- each try for the lock of the stripe missed: as its hashes were to be listed, or at the look of one of them
abbrev pub MissesListing : Setup → ℕ → ℕ → Hand → Hand → Type 0
MissesListing setup tries stripe before now = MissesStripeEachTime tries stripe (view before) (view now) ⊎ StopsLooking setup tries stripe before now
