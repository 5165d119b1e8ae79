-- A stripe in memory, and what it keeps.
use Rattle.std.specs.Prelude.{◌≡◌, ◌<◌, ◌^◌, ◌-◌, ◌++◌, [], length, min, true, false, if◌then◌else◌, Some, None, IfSome, vec_len, vec_capacity}
use Rattle.std.specs.HashMap.{spare}
use Rattle.std.specs.Option.{option_map}
use Rattle.mc_stripe.specs.declared.places.Places.TheInside.{Inside as PlacesInside}
use Rattle.mc_stripe.specs.declared.recorded.Recorded.TheInside.{Inside as RecordedInside}
use Rattle.mc_stripe.specs.declared.stripe.Stripe.TheInside.{Inside}
use Rattle.mc_stripe.specs.Entries.{by_key, entries_but, entry_at, HasEachKeyOnce}
use Rattle.mc_stripe.specs.History.{stamps_after_calls}
use Rattle.mc_stripe.specs.Places.{PlaceTable}
use Rattle.mc_stripe.specs.Recorded.{Calls, CanRecord}
use Rattle.mc_stripe.specs.StripeState.{StripeState, ReadyStripe}
use Rattle.mc_stripe.specs.Legal.{IsLegal}

-- all calls, in memory or not
abbrev pub calls_of : RecordedInside → Calls
calls_of calls = record {
  all = calls.past.calls ++ calls.tail.items;
  recorded_from = if calls.is_recorded then Some (length calls.past.calls) else None;
  room = vec_capacity calls.tail - vec_len calls.tail;
}

-- the calls that aren't in memory are counted; where calls are recorded, the base has the stamps that they left
pub record AreCallsRecorded (calls : RecordedInside) : Type 0 where
  -- the count of the calls that aren't in memory, which stops at 2^64 - 1
  pub trimmed : calls.trimmed ≡ min (length calls.past.calls) (2 ^ 64 - 1)
  -- where calls are recorded, the count of those that aren't in memory is below 2^64
  pub fits : calls.is_recorded ≡ true → length calls.past.calls < 2 ^ 64
  -- the base is what the calls that aren't in memory left
  pub base : calls.is_recorded ≡ true → stamps_after_calls [] calls.past.calls ≡ Some (by_key calls.base.items)
  -- the base has no key twice
  pub once : HasEachKeyOnce calls.base.items
  -- no call is in memory where none is recorded
  pub none : calls.is_recorded ≡ false → calls.tail.items ≡ []

-- the index by rising key, in whatever order the table has it, without the key aside
abbrev pub places_of : PlacesInside → PlaceTable
places_of places = record {
  index = entries_but (option_map (λ entry. entry.0) places.aside) (by_key places.table.entries);
  aside = places.aside;
  room = spare places.table;
}

-- the table leads the key aside to its place still
abbrev pub IsAsideInTable : PlacesInside → Type 0
IsAsideInTable places = IfSome places.aside (λ entry. entry_at (by_key places.table.entries) entry.0 ≡ Some entry.1)

-- the stripe as its callers see it
abbrev pub callers_stripe : Inside → StripeState
callers_stripe stripe = record { index = stripe.places.index; aside = stripe.places.aside; history = stripe.calls.all; recorded_from = stripe.calls.recorded_from }

-- the stripe and its room
abbrev pub ready_of : Inside → ReadyStripe
ready_of stripe = record { state = callers_stripe stripe; ready = stripe.ready; entry = stripe.entry }

-- the stripe is legal and has the room that its flags promise: `entry` for an entry, and `ready` for a call. Room for an entry stays until
-- an entry uses it
pub record IsStripeInOrder (stripe : Inside) : Type 0 where
  pub legal : IsLegal (callers_stripe stripe)
  -- the table has room where that is known
  pub spare : stripe.spare_entry ≡ true → 0 < stripe.places.room
  -- where the stripe has room for an entry of the call that comes, that room is known
  pub entry : stripe.entry ≡ true → stripe.spare_entry ≡ true
  pub call : stripe.ready ≡ true → CanRecord stripe.calls
