-- Which of the items that a hand stored itself it may still find: the one that it stored last under the hash.
use Rattle.std.specs.Prelude.{◌≡◌, ◌≢◌, ℕ, ◌==◌, ◌/◌, ◌^◌, if◌then◌else◌, List, [], All, Contains, Option, Some, None, fold, slice_index_or}
use Rattle.mc_packing.specs.Packing.{packed_item}
use Rattle.mc_stripe.specs.declared.history.Call.{Call}
use Rattle.mc_stripe.specs.declared.history.Call.TheVariants.{Set, Get, Delete, Evict, Rescue}
use Rattle.mc_core.specs.past.Past.{Own}
use Rattle.mc_words.specs.declared.hand.Hand.{Hand}
use Rattle.mc_words.specs.hand.Arenas.{view}
use Rattle.mc_words.specs.hand.Observers.{hand_number}
use Rattle.mc_words.specs.hand.View.{Setup}
use Rattle.mc_words.specs.item.Items.{item_with}
use Rattle.mc_items.specs.OnKeys.{stripe_of_key}
use Rattle.mc_shard.specs.Hands.{WereStored, items_stored_by}

-- the stamp that a hash has after a call, where it had this one before
abbrev pub stamp_after_call : ℕ → Option ℕ → Call → Option ℕ
stamp_after_call hash before (Set hand key stamp) = if hash == key then Some stamp else before
stamp_after_call hash before (Get hand key found) = before
stamp_after_call hash before (Delete hand key there) = if hash == key then None else before
stamp_after_call hash before (Evict hand key) = if hash == key then None else before
stamp_after_call hash before (Rescue hand key) = before

-- the stamp that these calls leave a hash, the oldest call first; none where the hash has no item then
abbrev pub stamp_after_calls : ℕ → List Call → Option ℕ
stamp_after_calls hash calls = fold (stamp_after_call hash) None calls

-- the calls of one number on keys of the hash's stripe
abbrev pub own_calls_on : Setup → ℕ → Own → List Call
own_calls_on setup hash own = slice_index_or own.calls (stripe_of_key setup hash) []

-- where the stamp is of one of these numbers, the calls of that number leave the hash this stamp: its set is their newest set of the hash,
-- and no delete or eviction of the hash by this number came after it
abbrev pub IsNewestOwn : Setup → ℕ → ℕ → List Own → Type 0
IsNewestOwn setup hash stamp mine = All (λ own. stamp / 2 ^ 48 ≡ own.number → stamp_after_calls hash (own_calls_on setup hash own) ≡ Some stamp) mine

-- the hand stored this value under the key, and no call of its own came after this that set, deleted or evicted the hash
pub record HasStoredLast (setup : Setup) (hash : ℕ) (key value : List ℕ) (hand : Hand) : Type 0 where
  pub stamp : ℕ
  pub among : Contains (items_stored_by hand) (record { stamp = stamp; words = item_with hash stamp (packed_item key value) })
  pub newest : (own : Own) → Contains (view hand).row.knows.mine own → own.number ≡ hand_number hand → stamp_after_calls hash (own_calls_on setup hash own) ≡ Some stamp

-- another hand stored this value under the key: the stamp is of another number than the hand's
pub record WasStoredByOther (setup : Setup) (hash : ℕ) (key value : List ℕ) (hand : Hand) : Type 0 where
  pub stamp : ℕ
  pub other : stamp / 2 ^ 48 ≢ hand_number hand
  pub stored : WereStored setup (items_stored_by hand) stamp (item_with hash stamp (packed_item key value))
