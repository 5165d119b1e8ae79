-- Items that are linked, referred to, read and unlinked.
use Rattle.std.specs.Prelude.{ℕ, ◌+◌, ◌-◌, ◌/◌, ◌%◌, ◌^◌, ◌==◌, Bool, true, false, not, ◌&&◌, ◌||◌, nat_lt, if◌then◌else◌, List, [], ◌∷◌, length, is_none, nat_eq, Option, Some, None}
use Rattle.std.specs.Option.{option_eq, option_map_or}
use Rattle.mc_classes.specs.Limits.{most_refs}
use Rattle.mc_pages.specs.declared.ids.ChunkId.{ChunkId}
use Rattle.mc_pages.specs.ClassState.{is_chunk}
use Rattle.mc_stripe.specs.StripeState.{StripeState, ReadyStripe, chunk_and_stamp, can_store}
use Rattle.mc_stripe.specs.Changes as stripe_changes
use Rattle.mc_stripe.specs.Changes.{after_got, after_lift, after_rescue, used_up}
use Rattle.mc_core.specs.declared.head.Head.{Head}
use Rattle.mc_core.specs.declared.head.Tag.TheVariants.{Unlinked, Linked}
use Rattle.mc_core.specs.declared.ids.Ids.{Ids}
use Rattle.mc_core.specs.declared.holding.Holding.{Holding}
use Rattle.mc_core.specs.declared.holding.Kind.{Kind}
use Rattle.mc_core.specs.declared.holding.Kind.TheVariants.{Reference, Fresh}
use Rattle.mc_core.specs.declared.holding.Purpose.TheVariants.{Rescue}
use Rattle.mc_core.specs.declared.look.Look.TheVariants.{Read}
use Rattle.mc_core.specs.model.Head.{is_linked, is_unlinked}
use Rattle.mc_core.specs.model.Holdings.{Words, known_key, stamp_in, words_of_item, is_complete, is_of_chunk, is_fresh, has_fresh, holding_of, holding_words, numbers_of_known, item_of}
use Rattle.mc_core.specs.model.Looks.{was_linked}
use Rattle.mc_core.specs.model.State.{State, has_chunk, head_at, with_head, chunk_room, word_at, item_at, ids_at, with_ids, has_slabs, has_stripe, stripe_of, stripe_at, with_stripe, holdings_at, with_holding, without_holding, looks_at, with_look}
use Rattle.mc_core.specs.run.Silent.{is_aside, writer_of}
use Rattle.mc_core.specs.run.Chunks.{has_place}

-- a header after its chunk is linked: the link counts 1
abbrev pub head_after_link : Head → Head
head_after_link head = record { issue = head.issue; tag = Linked; count = head.count + 1 }

-- a header after its chunk is unlinked
abbrev pub head_after_unlink : Head → Head
head_after_unlink head = record { issue = head.issue; tag = Unlinked; count = head.count - 1 }

-- a header with one holder more
abbrev pub head_after_refer : Head → Head
head_after_refer head = record head { count = head.count + 1 }

-- one more fits into the 16 bits of the count
abbrev pub can_count : Head → Bool
can_count head = nat_lt head.count 65535

-- the most stamps of a hand
abbrev pub most_stamps : ℕ
most_stamps = 2 ^ 48 - 1

-- the stamp is the next one of the hand: its number times 2^48, plus a count from 1
abbrev pub is_next_stamp : Ids → ℕ → Bool
is_next_stamp ids stamp =
    nat_lt ids.stamps most_stamps && option_eq nat_eq ids.number (Some (stamp / 2 ^ 48)) && stamp % 2 ^ 48 == ids.stamps + 1

-- the words are all known, and are those of the item
abbrev pub are_same : Words → List ℕ → Bool
are_same [] [] = true
are_same [] (y ∷ ys) = false
are_same (x ∷ xs) [] = false
are_same (x ∷ xs) (y ∷ ys) = option_eq nat_eq x (Some y) && are_same xs ys

-- the entry aside is of this key, chunk and stamp
abbrev pub is_entry_aside : StripeState → ℕ → ChunkId → ℕ → Bool
is_entry_aside stripe key chunk stamp = option_map_or (λ entry. entry.0 == key && is_chunk entry.1.0 chunk && entry.1.1 == stamp) stripe.aside false

-- no other key's entry is aside
abbrev pub is_none_else_aside : StripeState → ℕ → Bool
is_none_else_aside stripe key = is_none stripe.aside || is_aside stripe key

-- the item's words are allowed for this kind of chunk. A rescue has the words that were condemned, and its entry is aside. Any other item
-- that a hand fills has the hand's next stamp, and no other key's entry is aside. A reference never is allowed
abbrev pub is_allowed_for : State → ℕ → Words → Kind → Bool
is_allowed_for state hand words (Reference own) = false
is_allowed_for state hand words (Fresh (Rescue old item) own) =
    are_same (words_of_item words) item && is_entry_aside (stripe_at state (stripe_of state (known_key words))).state (known_key words) old (stamp_in words)
is_allowed_for state hand words (Fresh purpose own) =
    is_next_stamp (ids_at state hand) (stamp_in words) && is_none_else_aside (stripe_at state (stripe_of state (known_key words))).state (known_key words)

-- the stripe of the key is held, has room for a call and an entry, and the key leads nowhere
abbrev pub can_link_key : State → ℕ → ℕ → Bool
can_link_key state hand key =
    has_stripe state hand (stripe_of state key) && can_store (stripe_at state (stripe_of state key)) && is_none (chunk_and_stamp (stripe_at state (stripe_of state key)).state key)

-- the key's stripe can record the link, and the item's words are allowed for this kind of chunk
abbrev pub can_record_link : State → ℕ → Holding → Bool
can_record_link state hand holding = can_link_key state hand (known_key (holding_words holding)) && is_allowed_for state hand (holding_words holding) holding.kind

-- the holding's item is complete, the key's stripe can record the link, and the chunk is unlinked with room in its count
abbrev pub can_link_holding : State → ℕ → ChunkId → Option Holding → Bool
can_link_holding state hand chunk None = false
can_link_holding state hand chunk (Some holding) =
    is_complete (holding_words holding) && can_record_link state hand holding && is_unlinked (head_at state chunk).tag && can_count (head_at state chunk)

-- the hand's first holding of the chunk can be linked, under the key in its first word
abbrev pub can_link : State → ℕ → ChunkId → Bool
can_link state hand chunk = can_link_holding state hand chunk (holding_of chunk (holdings_at state hand))

-- the hand gave out one more stamp
abbrev pub ids_after_stamp : Ids → Ids
ids_after_stamp ids = record ids { stamps = ids.stamps + 1 }

-- the holding as a reference to the item that the chunk was filled with
abbrev pub as_reference : Holding → Holding
as_reference holding = record holding { kind = Reference (numbers_of_known (words_of_item (holding_words holding))) }

-- the key's entry that was aside comes back, and leads to the holding's chunk
abbrev pub with_rescued : State → ℕ → Holding → State
with_rescued state hand holding =
    let stripe = stripe_of state (known_key (holding_words holding)) in
    with_stripe state stripe (used_up (after_rescue (stripe_at state stripe).state (writer_of state hand) (known_key (holding_words holding)) holding.chunk))

-- the key's stripe stores the item, and the hand gave out one more stamp
abbrev pub with_set : State → ℕ → Holding → State
with_set state hand holding =
    let stripe = stripe_of state (known_key (holding_words holding)) in
    with_ids (with_stripe state stripe
    (used_up (stripe_changes.after_link (stripe_at state stripe).state (writer_of state hand) (known_key (holding_words holding)) holding.chunk (stamp_in (holding_words holding)))))
    hand (ids_after_stamp (ids_at state hand))

-- the state after the key's stripe recorded the link: a rescued item's entry comes back, and any other item is stored
abbrev pub recorded_link : State → ℕ → Holding → Kind → State
recorded_link state hand holding (Fresh (Rescue old item) own) = with_rescued state hand holding
recorded_link state hand holding kind = with_set state hand holding

-- the stripe of the key knows of the link
abbrev pub with_recorded_link : State → ℕ → Holding → State
with_recorded_link state hand holding = recorded_link state hand holding holding.kind

-- the state after this holding was linked and became the hand's last, as a reference; where there is no holding, nothing changes
abbrev pub after_link_of : State → ℕ → ChunkId → Option Holding → State
after_link_of state hand chunk None = state
after_link_of state hand chunk (Some holding) =
    with_holding (with_head (with_recorded_link state hand holding) chunk (head_after_link (head_at state chunk))) hand (as_reference holding)

-- the state after the hand's first holding of the chunk was linked and became the hand's last, as a reference
abbrev pub state_after_link : State → ℕ → ChunkId → State
state_after_link state hand chunk = after_link_of (without_holding state hand (is_of_chunk chunk)) hand chunk (holding_of chunk (holdings_at state hand))

-- a reference to the item in the chunk
abbrev pub new_reference : State → ChunkId → Holding
new_reference state chunk = record { chunk = chunk; issue = (head_at state chunk).issue; kind = Reference (item_at state chunk) }

-- the hand gets a reference to the item in the chunk, whose header counts the reference; no stripe records a call
abbrev pub with_reference : State → ℕ → ChunkId → State
with_reference state hand chunk = with_holding (with_head state chunk (head_after_refer (head_at state chunk))) hand (new_reference state chunk)

-- the chunk to which the key leads, and its item's stamp; none where it leads nowhere
abbrev pub chunk_of_key : State → ℕ → Option (ChunkId × ℕ)
chunk_of_key state key = chunk_and_stamp (stripe_at state (stripe_of state key)).state key

-- the key leads somewhere, to a linked chunk with room in its count
abbrev pub can_refer_to : State → Option (ChunkId × ℕ) → Bool
can_refer_to state None = false
can_refer_to state (Some place) = is_linked (head_at state place.0).tag && can_count (head_at state place.0)

-- the stripe of the key is held and has room for a call, and the key's entry isn't aside
abbrev pub can_look_up : State → ℕ → ℕ → Bool
can_look_up state hand key =
    has_stripe state hand (stripe_of state key) && (stripe_at state (stripe_of state key)).ready && not (is_aside (stripe_at state (stripe_of state key)).state key)

-- the hand can look the key up and has a place left, and the key leads to a linked chunk with room in its count
abbrev pub can_refer : State → ℕ → ℕ → Bool
can_refer state hand key = can_look_up state hand key && has_place state hand && can_refer_to state (chunk_of_key state key)

-- the hand gets a reference to the chunk to which a key leads; where it leads nowhere nothing changes
abbrev pub referred_to : State → ℕ → Option (ChunkId × ℕ) → State
referred_to state hand None = state
referred_to state hand (Some place) = with_reference state hand place.0

-- the key's stripe records that the key was looked up, which uses its room for a call up
abbrev pub with_got : State → ℕ → ℕ → State
with_got state hand key =
    with_stripe state (stripe_of state key) (used_up (after_got (stripe_at state (stripe_of state key)).state (writer_of state hand) key))

-- the key's stripe records that the key was looked up, and the hand gets a reference to the key's item, if there is one
abbrev pub after_refer : State → ℕ → ℕ → State
after_refer state hand key = referred_to (with_got state hand key) hand (chunk_of_key state key)

-- the hand has no fresh chunk, or no entry of the key's stripe is aside: a hand with a fresh chunk puts the key's entry there
abbrev pub can_lift : State → ℕ → ℕ → Bool
can_lift state hand key = not (has_fresh (holdings_at state hand)) || is_none (stripe_at state (stripe_of state key)).state.aside

-- the chunk to which a key leads is linked; false where it leads nowhere
abbrev pub is_linked_at : State → Option (ChunkId × ℕ) → Bool
is_linked_at state None = false
is_linked_at state (Some place) = is_linked (head_at state place.0).tag

-- the hand can look the key up and, where it has to, put its entry aside, and the key leads to a linked chunk
abbrev pub can_unlink : State → ℕ → ℕ → Bool
can_unlink state hand key = can_look_up state hand key && can_lift state hand key && is_linked_at state (chunk_of_key state key)

-- the stripe after the key's entry was put aside, or else the key deleted
abbrev pub stripe_unlinked : ReadyStripe → Bool → ℕ → ℕ → ReadyStripe
stripe_unlinked stripe lifts writer key =
    if lifts then record stripe { state = after_lift stripe.state key } else used_up (stripe_changes.after_unlink stripe.state writer key)

-- the chunk to which a key leads is unlinked, less the link's count; where it leads nowhere nothing changes
abbrev pub with_unlinked : State → Option (ChunkId × ℕ) → State
with_unlinked state None = state
with_unlinked state (Some place) = with_head state place.0 (head_after_unlink (head_at state place.0))

-- the key leads nowhere: it is deleted, or its entry aside where the hand has a fresh chunk; its chunk is unlinked
abbrev pub state_after_unlink : State → ℕ → ℕ → State
state_after_unlink state hand key =
    with_unlinked (with_stripe state (stripe_of state key)
    (stripe_unlinked (stripe_at state (stripe_of state key)) (has_fresh (holdings_at state hand)) (writer_of state hand) key))
    (chunk_of_key state key)

-- the hand may take one more reference without a lock: it holds few enough chunks that a place is left for one that it gets under a lock
abbrev pub has_place_unlocked : State → ℕ → Bool
has_place_unlocked state hand = nat_lt (length (holdings_at state hand)) most_refs

-- the hand has a place without a lock, and the chunk is linked with this issue, with room in its count
abbrev pub can_again : State → ℕ → ChunkId → ℕ → Bool
can_again state hand chunk issue =
    has_chunk state.table chunk && has_place_unlocked state hand && is_linked (head_at state chunk).tag && (head_at state chunk).issue == issue && can_count (head_at state chunk)

-- the first holding of the chunk is a reference, and its item has such a word
abbrev pub can_read_in : ℕ → Option Holding → Bool
can_read_in place None = false
can_read_in place (Some holding) = not (is_fresh holding) && nat_lt place (length (item_of holding))

-- the hand's first holding of the chunk is a reference, and its item has this place; place 0 has the key
abbrev pub can_word : State → ℕ → ChunkId → ℕ → Bool
can_word state hand chunk place = can_read_in place (holding_of chunk (holdings_at state hand))

-- the hand has the slabs lock and found the chunk linked since it took it, and the chunk has this place
abbrev pub can_word_held : State → ℕ → ChunkId → ℕ → Bool
can_word_held state hand chunk place =
    has_slabs state hand && has_chunk state.table chunk && was_linked (looks_at state hand) chunk && nat_lt place (chunk_room state chunk)

-- the hand's looks under the slabs lock end with this word of the chunk
abbrev pub after_word_held : State → ℕ → ChunkId → ℕ → State
after_word_held state hand chunk place = with_look state hand (Read chunk place (word_at state chunk place))
