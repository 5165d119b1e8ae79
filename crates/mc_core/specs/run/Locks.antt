-- Looks at words, and the locks that are taken and given.
use Rattle.std.specs.Prelude.{ℕ, ◌+◌, ◌==◌, Bool, ◌&&◌, nat_lt, if◌then◌else◌, [], length, is_none, slice_index, slice_set}
use Rattle.std.specs.Option.{option_map_or}
use Rattle.mc_pages.specs.declared.ids.ChunkId.{ChunkId}
use Rattle.mc_core.specs.declared.look.Look.{Look}
use Rattle.mc_core.specs.declared.look.Look.TheVariants.{Saw, SawStripe}
use Rattle.mc_core.specs.model.State.{State, has_chunk, head_at, number_at, has_slabs, has_stripe, stripe_at, with_looks, with_look}
use Rattle.mc_core.specs.run.Silent.{none_half_cut}

-- the hand saw or did this, which counts under the slabs lock alone
abbrev pub state_after_look : State → ℕ → Look → State
state_after_look state hand look = if has_slabs state hand then with_look state hand look else state

-- the arena has the chunk, so any hand may look at its header, with a lock or without
abbrev pub can_look : State → ChunkId → Bool
can_look state chunk = has_chunk state.table chunk

-- the hand looked at the chunk's header, which counts under the slabs lock alone
abbrev pub after_look : State → ℕ → ChunkId → State
after_look state hand chunk = state_after_look state hand (Saw chunk (head_at state chunk))

-- the arena has a stripe of this number; they are numbered from 0
abbrev pub has_stripes : State → ℕ → Bool
has_stripes state stripe = nat_lt stripe (length state.stripe_locks)

-- the hand looked at the word of the stripe's lock, which counts under the slabs lock alone
abbrev pub after_miss_stripe : State → ℕ → ℕ → State
after_miss_stripe state hand stripe = state_after_look state hand (SawStripe stripe (slice_index state.stripe_locks stripe))

-- the word of a lock that the hand has: its number plus 1
abbrev pub lock_word : State → ℕ → ℕ
lock_word state hand = option_map_or (λ number. number + 1) (number_at state hand) 0

-- no hand has the slabs lock
abbrev pub can_take_slabs : State → Bool
can_take_slabs state = state.slabs_lock == 0

-- a hold of the slabs lock begins, with nothing seen
abbrev pub after_take_slabs : State → ℕ → State
after_take_slabs state hand = with_looks (record state { slabs_lock = lock_word state hand }) hand []

-- there is such a stripe, and no hand has the stripe's lock
abbrev pub can_take_stripe : State → ℕ → Bool
can_take_stripe state stripe = has_stripes state stripe && slice_index state.stripe_locks stripe == 0

-- the word of the stripe's lock is now this
abbrev pub with_stripe_lock : State → ℕ → ℕ → State
with_stripe_lock state stripe word = record state { stripe_locks = slice_set state.stripe_locks stripe word }

-- the hand has the stripe's lock; the stripe itself is as it was
abbrev pub after_take_stripe : State → ℕ → ℕ → State
after_take_stripe state hand stripe = with_stripe_lock state stripe (lock_word state hand)

-- the hand has the slabs lock, and no page is half cut
abbrev pub can_give_slabs : State → ℕ → Bool
can_give_slabs state hand = has_slabs state hand && none_half_cut state.slabs

-- no hand has the slabs lock; pages and lists are as they were, and so is what was seen under it
abbrev pub after_give_slabs : State → State
after_give_slabs state = record state { slabs_lock = 0 }

-- the hand has the stripe's lock, and no entry of the stripe is aside
abbrev pub can_give_stripe : State → ℕ → ℕ → Bool
can_give_stripe state hand stripe = has_stripe state hand stripe && is_none (stripe_at state stripe).state.aside

-- no hand has the stripe's lock; the stripe itself is as it was
abbrev pub after_give_stripe : State → ℕ → State
after_give_stripe state stripe = with_stripe_lock state stripe 0
