-- Items that are taken away from their chunks, to make room or since their page moves.
use Rattle.std.specs.Prelude.{ℕ, ◌==◌, Bool, not, ◌&&◌, ◌||◌, if◌then◌else◌, List, is_some, is_none}
use Rattle.std.specs.List.{list_all, list_any}
use Rattle.mc_classes.specs.Classes.{Classes}
use Rattle.mc_pages.specs.declared.ids.ChunkId.{ChunkId}
use Rattle.mc_pages.specs.ClassState.{first_free}
use Rattle.mc_pages.specs.Pages.{is_on_the_move}
use Rattle.mc_pages.specs.Changes.{next_page}
use Rattle.mc_pages.specs.SlabState.{SlabState, class_of_chunk, class_of_page}
use Rattle.mc_stripe.specs.StripeState.{ReadyStripe, chunk_and_stamp}
use Rattle.mc_stripe.specs.Changes.{after_evict, after_lift, used_up}
use Rattle.mc_core.specs.declared.head.Head.{Head}
use Rattle.mc_core.specs.declared.head.Tag.TheVariants.{Unlinked}
use Rattle.mc_core.specs.declared.holding.Holding.{Holding}
use Rattle.mc_core.specs.declared.holding.Kind.TheVariants.{Fresh}
use Rattle.mc_core.specs.declared.holding.Purpose.TheVariants.{Rescue}
use Rattle.mc_core.specs.declared.look.Look.{Look}
use Rattle.mc_core.specs.declared.look.Look.TheVariants.{Condemned}
use Rattle.mc_core.specs.model.Head.{is_linked}
use Rattle.mc_core.specs.model.Holdings.{is_copy_of, holding_words}
use Rattle.mc_core.specs.model.Looks.{is_found_alive}
use Rattle.mc_core.specs.model.State.{State, has_chunk, head_at, with_head, word_at, item_at, has_slabs, has_stripe, stripe_of, stripe_at, with_stripe, holdings_at, with_changed, looks_at, with_look}
use Rattle.mc_core.specs.run.Silent.{none_half_cut, writer_of}
use Rattle.mc_core.specs.run.Chunks.{target_of}

-- the hand got a fresh chunk for a copy of the item in this one, which it hasn't condemned yet
abbrev pub has_copy : List Holding → ChunkId → Bool
has_copy holdings chunk = list_any (is_copy_of chunk) holdings

-- the hand found each chunk that this one's class handed out not dead, and since then handed out, condemned and cleared nothing
abbrev pub none_dead : SlabState → List Look → ChunkId → Bool
none_dead slabs looks chunk = list_all (is_found_alive looks) (class_of_chunk slabs chunk).order

-- the chunk's page moves, each chunk that its class handed out was found not dead, and no free one can take its item
abbrev pub must_leave : Classes → List Head → SlabState → List Look → ChunkId → Bool
must_leave table heads slabs looks chunk = is_on_the_move slabs chunk.page && none_dead slabs looks chunk && is_none (target_of table heads slabs chunk.page)

-- the class has no free chunk, and each that it handed out was found not dead; no page is to be had for the class, and none is half cut
abbrev pub lacks_room : SlabState → List Look → ChunkId → Bool
lacks_room slabs looks chunk =
    is_none (first_free (class_of_chunk slabs chunk)) && none_dead slabs looks chunk && is_none (next_page slabs (class_of_page slabs chunk.page)) && none_half_cut slabs

-- why an item may be taken away: it goes to another chunk, its page moves, or room is needed
abbrev pub has_reason : Classes → List Head → SlabState → List Look → List Holding → ChunkId → Bool
has_reason table heads slabs looks holdings chunk =
    is_on_the_move slabs chunk.page && has_copy holdings chunk || must_leave table heads slabs looks chunk || lacks_room slabs looks chunk

-- the key of the item in the chunk
abbrev pub key_at : State → ChunkId → ℕ
key_at state chunk = word_at state chunk 0

-- the chunk is linked and nobody holds it, so its header counts the link alone
abbrev pub is_linked_unheld : Head → Bool
is_linked_unheld head = is_linked head.tag && head.count == 1

-- the stripe has room for a call, the key leads somewhere, and where its entry is to be put aside none is aside
abbrev pub can_lose_entry : ReadyStripe → ℕ → Bool → Bool
can_lose_entry stripe key rescues = stripe.ready && is_some (chunk_and_stamp stripe.state key) && (not rescues || is_none stripe.state.aside)

-- under both locks: the chunk is linked and unheld, its key's entry can go, and there is a reason to take the item away
abbrev pub can_condemn : State → ℕ → ChunkId → Bool
can_condemn state hand chunk =
    has_slabs state hand && has_chunk state.table chunk && is_linked_unheld (head_at state chunk) && has_stripe state hand (stripe_of state (key_at state chunk))
    && can_lose_entry (stripe_at state (stripe_of state (key_at state chunk))) (key_at state chunk) (has_copy (holdings_at state hand) chunk)
    && has_reason state.table state.heads state.slabs (looks_at state hand) (holdings_at state hand) chunk

-- a header after its item was taken away
abbrev pub head_after_condemn : Head → Head
head_after_condemn head = record { issue = head.issue; tag = Unlinked; count = 0 }

-- the fresh chunk is to have these words, and no others
abbrev pub as_rescue : ChunkId → List ℕ → Holding → Holding
as_rescue old item holding = record holding { kind = Fresh (Rescue old item) (holding_words holding) }

-- the stripe after a key's item was taken away: for a rescue the key's entry was put aside, and otherwise evicted
abbrev pub stripe_condemned : ReadyStripe → Bool → ℕ → ℕ → ReadyStripe
stripe_condemned stripe rescues writer key =
    if rescues then record stripe { state = after_lift stripe.state key } else used_up (after_evict stripe.state writer key)

-- each copy of this chunk that the hand holds is to have these words, and counts as a copy of it no more
abbrev pub with_bound : State → ℕ → ChunkId → List ℕ → State
with_bound state hand chunk item = with_changed state hand (is_copy_of chunk) (as_rescue chunk item)

-- the stripe of the key knows that the item was taken away
abbrev pub with_eviction_call : State → ℕ → ChunkId → ℕ → State
with_eviction_call state hand chunk key =
    with_stripe state (stripe_of state key) (stripe_condemned (stripe_at state (stripe_of state key)) (has_copy (holdings_at state hand) chunk) (writer_of state hand) key)

-- the chunk is dead, its key's entry evicted, or put aside where the hand has a copy, which is to have its words
abbrev pub after_condemn : State → ℕ → ChunkId → State
after_condemn state hand chunk =
    with_look (with_head (with_bound (with_eviction_call state hand chunk (key_at state chunk)) hand chunk (item_at state chunk)) chunk (head_after_condemn (head_at state chunk)))
    hand (Condemned chunk (head_after_condemn (head_at state chunk)))
