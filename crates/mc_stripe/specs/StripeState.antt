-- The items of a stripe's keys, and the stripe's history.
use Rattle.std.specs.Prelude.{ℕ, Bool, false, ◌&&◌, List, [], map, Option, Some, None}
use Rattle.std.specs.Option.{option_map}
use Rattle.mc_pages.specs.declared.ids.ChunkId.{ChunkId}
use Rattle.mc_stripe.specs.declared.history.Call.{Call}
use Rattle.mc_stripe.specs.Entries.{entry_at, with_entry}
use Rattle.mc_stripe.specs.History.{Stamps}
use Rattle.mc_stripe.specs.Recorded.{count_trimmed, left_by_trimmed, recorded_calls}

-- the keys, each with the chunk and the stamp of its item, by rising key
abbrev pub Index : Type 0
Index = List (ℕ × (ChunkId × ℕ))

-- a stripe: the index of its keys, the entry that is aside, if one is, and all calls, recorded or not
pub record StripeState : Type 0 where
  pub index : Index
  -- an entry that was lifted out of the index, until its key comes back
  pub aside : Option (ℕ × (ChunkId × ℕ))
  -- all calls, the oldest first
  pub history : List Call
  -- the place of the first call that is recorded, none where no call is
  pub recorded_from : Option ℕ

-- the stripe, and for what room was made
pub record ReadyStripe : Type 0 where
  pub state : StripeState
  -- the stripe has room for one more call
  pub ready : Bool
  -- the index of the stripe has room for one more entry
  pub entry : Bool

-- the stripe has room for one more call, and for the entry that the call may store
abbrev pub can_store : ReadyStripe → Bool
can_store stripe = stripe.ready && stripe.entry

-- no key was ever stored, and no room was made
abbrev pub new_stripe : ReadyStripe
new_stripe = record { state = record { index = []; aside = None; history = []; recorded_from = Some 0 }; ready = false; entry = false }

-- the key whose entry is aside
abbrev pub key_aside : StripeState → Option ℕ
key_aside stripe = option_map (λ entry. entry.0) stripe.aside

-- the key's chunk and stamp
abbrev pub chunk_and_stamp : StripeState → ℕ → Option (ChunkId × ℕ)
chunk_and_stamp stripe key = entry_at stripe.index key

-- the key's stamp
abbrev pub stamp_of_key : StripeState → ℕ → Option ℕ
stamp_of_key stripe key = option_map (λ place. place.1) (chunk_and_stamp stripe key)

-- the index, an entry aside counted in
abbrev pub with_aside : Index → Option (ℕ × (ChunkId × ℕ)) → Index
with_aside index None = index
with_aside index (Some entry) = with_entry index entry.0 entry.1

-- the stamps of these keys
abbrev pub index_stamps : Index → Stamps
index_stamps index = map (λ entry. (entry.0, entry.1.1)) index

-- the stamps of all keys, the one aside counted in
abbrev pub stamps_of : StripeState → Stamps
stamps_of stripe = index_stamps (with_aside stripe.index stripe.aside)

-- how many calls aren't recorded
abbrev pub trimmed_of : StripeState → ℕ
trimmed_of stripe = count_trimmed stripe.history stripe.recorded_from

-- the calls that are recorded
abbrev pub history_tail : StripeState → List Call
history_tail stripe = recorded_calls stripe.history stripe.recorded_from

-- the stamps of the keys as the calls that aren't recorded left them
abbrev pub base_stamps : StripeState → Stamps
base_stamps stripe = left_by_trimmed stripe.history stripe.recorded_from
