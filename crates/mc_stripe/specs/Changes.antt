-- What each call of a stripe changes.
use Rattle.std.specs.Prelude.{ℕ, true, false, [], ◌∷◌, ◌++◌, length, is_some, None}
use Rattle.std.specs.Option.{option_map, option_map_or}
use Rattle.mc_pages.specs.declared.ids.ChunkId.{ChunkId}
use Rattle.mc_stripe.specs.declared.history.Call.{Call}
use Rattle.mc_stripe.specs.declared.history.Call.TheVariants.{Set, Get, Delete, Evict, Rescue}
use Rattle.mc_stripe.specs.Entries.{with_entry, without_entry}
use Rattle.mc_stripe.specs.Recorded.{recorded_behind}
use Rattle.mc_stripe.specs.StripeState.{StripeState, ReadyStripe, chunk_and_stamp, stamp_of_key}

-- the call comes last in the history
abbrev pub with_call : StripeState → Call → StripeState
with_call stripe call = record stripe { history = stripe.history ++ call ∷ [] }

-- a key that is in no entry of the index comes there, and none is aside then
abbrev pub with_place : StripeState → ℕ → ChunkId × ℕ → StripeState
with_place stripe key place = record stripe { index = with_entry stripe.index key place; aside = None }

-- the key leaves the index
abbrev pub without_place : StripeState → ℕ → StripeState
without_place stripe key = record stripe { index = without_entry stripe.index key }

-- an item is stored in the chunk
abbrev pub after_link : StripeState → ℕ → ℕ → ChunkId → ℕ → StripeState
after_link stripe hand key chunk stamp = with_call (with_place stripe key (chunk, stamp)) (Set hand key stamp)

-- the key is deleted
abbrev pub after_unlink : StripeState → ℕ → ℕ → StripeState
after_unlink stripe hand key = with_call (without_place stripe key) (Delete hand key (is_some (chunk_and_stamp stripe key)))

-- the key is looked up
abbrev pub after_got : StripeState → ℕ → ℕ → StripeState
after_got stripe hand key = with_call stripe (Get hand key (stamp_of_key stripe key))

-- the key's item is evicted
abbrev pub after_evict : StripeState → ℕ → ℕ → StripeState
after_evict stripe hand key = with_call (without_place stripe key) (Evict hand key)

-- the key's entry is put aside
abbrev pub after_lift : StripeState → ℕ → StripeState
after_lift stripe key = record (without_place stripe key) { aside = option_map (λ place. (key, place)) (chunk_and_stamp stripe key) }

-- the stamp of the entry aside
abbrev pub stamp_aside : StripeState → ℕ
stamp_aside stripe = option_map_or (λ entry. entry.1.1) stripe.aside 0

-- the entry aside comes back, with another chunk and the same stamp
abbrev pub after_rescue : StripeState → ℕ → ℕ → ChunkId → StripeState
after_rescue stripe hand key chunk = with_call (with_place stripe key (chunk, stamp_aside stripe)) (Rescue hand key)

-- the calls so far aren't recorded any more
abbrev pub stripe_after_trim : StripeState → StripeState
stripe_after_trim stripe = record stripe { recorded_from = recorded_behind stripe.recorded_from (length stripe.history) }

-- no call is recorded from now on, and none of those so far
abbrev pub after_forget : StripeState → StripeState
after_forget stripe = record stripe { recorded_from = None }

-- the stripe is now this, and the room is used up
abbrev pub used_up : StripeState → ReadyStripe
used_up stripe = record { state = stripe; ready = false; entry = false }

-- room was made for one more call
abbrev pub after_reserve_call : ReadyStripe → ReadyStripe
after_reserve_call stripe = record stripe { ready = true }

-- room was made for one more call and one more entry
abbrev pub after_reserve : ReadyStripe → ReadyStripe
after_reserve stripe = record stripe { ready = true; entry = true }
