-- Chunks that are handed out, filled, given up, put back, cleared and cut.
use Rattle.std.specs.Prelude.{ℕ, ◌+◌, ◌-◌, ◌^◌, ◌==◌, Bool, true, false, not, ◌&&◌, ◌||◌, nat_lt, List, find, length, replicate, slice_set, Option, Some, None}
use Rattle.std.specs.Option.{option_map_or}
use Rattle.mc_classes.specs.Classes.{Classes}
use Rattle.mc_pages.specs.declared.ids.ChunkId.{ChunkId}
use Rattle.mc_pages.specs.ClassState.{is_chunk, first_free}
use Rattle.mc_pages.specs.SlabState.{SlabState, class_at, class_of_page}
use Rattle.mc_pages.specs.Pages.{is_on_the_move}
use Rattle.mc_pages.specs.Changes as slabs_changes
use Rattle.mc_core.specs.declared.head.Head.{Head}
use Rattle.mc_core.specs.declared.head.Tag.TheVariants.{Out, Free, Unlinked}
use Rattle.mc_core.specs.declared.holding.Holding.{Holding}
use Rattle.mc_core.specs.declared.holding.Kind.{Kind}
use Rattle.mc_core.specs.declared.holding.Kind.TheVariants.{Reference, Fresh}
use Rattle.mc_core.specs.declared.holding.Purpose.{Purpose}
use Rattle.mc_core.specs.declared.holding.Purpose.TheVariants.{Item, Copy}
use Rattle.mc_core.specs.declared.limits.TheConstants.{MOST_HOLDINGS}
use Rattle.mc_core.specs.declared.look.Look.TheVariants.{Popped, PoppedOff, PutBack, Cleared, Cut}
use Rattle.mc_core.specs.model.Head.{is_free, is_out, is_dead}
use Rattle.mc_core.specs.model.Holdings.{is_of_chunk, is_fresh, holding_of, holding_words}
use Rattle.mc_core.specs.model.State.{State, is_class, has_chunk, head_at, with_head, chunk_room, with_word, has_slabs, with_slabs, holdings_at, with_holding, with_changed, without_holding, with_look}
use Rattle.mc_core.specs.model.Columns.{head_in}
use Rattle.mc_core.specs.run.Silent.{is_handed_out, is_listed}

-- the greatest issue number, with which a chunk is used up
abbrev pub most_issue : ℕ
most_issue = 2 ^ 46 - 1

-- the most holdings of a hand
abbrev pub most_holdings : ℕ
most_holdings = MOST_HOLDINGS

-- the hand may hold one more chunk
abbrev pub has_place : State → ℕ → Bool
has_place state hand = nat_lt (length (holdings_at state hand)) most_holdings

-- there is a chunk, its header is free, and its issue number isn't used up
abbrev pub can_hand_out : State → Option ChunkId → Bool
can_hand_out state None = false
can_hand_out state (Some chunk) = is_free (head_at state chunk).tag && nat_lt (head_at state chunk).issue most_issue

-- a header after its chunk is handed out: the next issue, one holder
abbrev pub head_after_hand_out : Head → Head
head_after_hand_out head = record { issue = head.issue + 1; tag = Unlinked; count = 1 }

-- the holding of a chunk that is handed out for this purpose, with its next issue number, and none of its words filled
abbrev pub new_holding : State → ChunkId → Purpose → Holding
new_holding state chunk purpose = record {
  chunk = chunk;
  issue = (head_at state chunk).issue + 1;
  kind = Fresh purpose (replicate (chunk_room state chunk) None);
}

-- the header and the hand's holdings after the chunk is handed out to it
abbrev pub with_fresh : State → ℕ → ChunkId → Purpose → State
with_fresh state hand chunk purpose = with_holding (with_head state chunk (head_after_hand_out (head_at state chunk))) hand (new_holding state chunk purpose)

-- the chunk that the class hands out next, none where its free list is empty
abbrev pub next_free : State → ℕ → Option ChunkId
next_free state class = first_free (class_at state.slabs class)

-- the hand has the slabs lock and a place left, and the class's next free chunk can be handed out
abbrev pub can_pop : State → ℕ → ℕ → Bool
can_pop state hand class = has_slabs state hand && is_class state.table class && has_place state hand && can_hand_out state (next_free state class)

-- the state after this chunk went to the hand for its own item; where there is no chunk, nothing changes
abbrev pub state_after_pop_of : State → ℕ → Option ChunkId → State
state_after_pop_of state hand None = state
state_after_pop_of state hand (Some chunk) = with_look (with_fresh state hand chunk Item) hand (Popped chunk (head_after_hand_out (head_at state chunk)))

-- the class's next free chunk is handed out to the hand, for an item of its own
abbrev pub state_after_pop : State → ℕ → ℕ → State
state_after_pop state hand class = state_after_pop_of (with_slabs state (slabs_changes.after_pop state.slabs class)) hand (next_free state class)

-- the chunk is off the page and isn't used up
abbrev pub is_target : Classes → List Head → ℕ → ChunkId → Bool
is_target table heads page chunk = not (chunk.page == page) && nat_lt (head_in table heads chunk).issue most_issue

-- the first free chunk of the class that an item of the page can be taken to
abbrev pub target_of : Classes → List Head → SlabState → ℕ → Option ChunkId
target_of table heads slabs page = find (is_target table heads page) (class_at slabs (class_of_page slabs page)).free

-- the hand has the slabs lock and a place left; the old chunk is handed out, its page moves, a chunk can replace it
abbrev pub can_pop_off : State → ℕ → ChunkId → Bool
can_pop_off state hand old =
    has_slabs state hand && is_on_the_move state.slabs old.page && is_handed_out state.slabs old && has_place state hand && can_hand_out state (target_of state.table state.heads state.slabs old.page)

-- the free chunk takes the old one's place and goes to the hand for a copy; where there is no free chunk, nothing changes
abbrev pub popped_off : State → ℕ → ChunkId → Option ChunkId → State
popped_off state hand old None = state
popped_off state hand old (Some chunk) =
    with_look (with_fresh (with_slabs state (slabs_changes.after_replace state.slabs chunk old)) hand chunk (Copy old)) hand
    (PoppedOff chunk old (head_after_hand_out (head_at state chunk)))

-- the first free chunk to which the old one's item can be taken gets its place, and goes to the hand for a copy
abbrev pub after_pop_off : State → ℕ → ChunkId → State
after_pop_off state hand old = popped_off state hand old (target_of state.table state.heads state.slabs old.page)

-- the holding is fresh, and its chunk has such a place
abbrev pub can_fill_in : ℕ → Option Holding → Bool
can_fill_in place None = false
can_fill_in place (Some holding) = is_fresh holding && nat_lt place (length (holding_words holding))

-- the hand's first holding of the chunk is fresh, and the chunk has such a place
abbrev pub can_fill : State → ℕ → ChunkId → ℕ → Bool
can_fill state hand chunk place = can_fill_in place (holding_of chunk (holdings_at state hand))

-- a fresh chunk with one more of its words known; a reference stays as it is
abbrev pub filled_kind : ℕ → ℕ → Kind → Kind
filled_kind place word (Reference item) = Reference item
filled_kind place word (Fresh purpose words) = Fresh purpose (slice_set words place (Some word))

-- the holding with one more word
abbrev pub holding_with_word : ℕ → ℕ → Holding → Holding
holding_with_word place word holding = record holding { kind = filled_kind place word holding.kind }

-- the word is at this place of the chunk, and the hand's fresh holding of the chunk records the word there
abbrev pub after_fill : State → ℕ → ChunkId → ℕ → ℕ → State
after_fill state hand chunk place word = with_word (with_changed state hand (is_of_chunk chunk) (holding_with_word place word)) chunk place word

-- a header with one holder less
abbrev pub head_after_release : Head → Head
head_after_release head = record head { count = head.count - 1 }

-- there is a holding, and it is fresh or a reference, as is asked
abbrev pub holds_as : Bool → Option Holding → Bool
holds_as fresh None = false
holds_as fresh (Some holding) = is_fresh holding && fresh || not (is_fresh holding) && not fresh

-- the hand's first holding of the chunk is fresh
abbrev pub can_discard : State → ℕ → ChunkId → Bool
can_discard state hand chunk = holds_as true (holding_of chunk (holdings_at state hand))

-- the hand's first holding of the chunk is a reference
abbrev pub can_release : State → ℕ → ChunkId → Bool
can_release state hand chunk = holds_as false (holding_of chunk (holdings_at state hand))

-- the hand gives up its first holding of the chunk, whose header counts one holder less
abbrev pub after_drop : State → ℕ → ChunkId → State
after_drop state hand chunk = without_holding (with_head state chunk (head_after_release (head_at state chunk))) hand (is_of_chunk chunk)

-- a header whose chunk came to its free list: issue and count are as they were
abbrev pub with_tag_free : Head → Head
with_tag_free head = record head { tag = Free }

-- a header whose chunk was cleared: issue and count are as they were
abbrev pub with_tag_out : Head → Head
with_tag_out head = record head { tag = Out }

-- the hand has the slabs lock, and the chunk is dead and in the hand-out order of its class
abbrev pub can_put_back : State → ℕ → ChunkId → Bool
can_put_back state hand chunk = has_slabs state hand && has_chunk state.table chunk && is_dead (head_at state chunk) && is_handed_out state.slabs chunk

-- the dead chunk goes from the hand-out order to the head of the free list, with the issue that it had
abbrev pub after_put_back : State → ℕ → ChunkId → State
after_put_back state hand chunk =
    with_look (with_head (with_slabs state (slabs_changes.after_back state.slabs chunk)) chunk (with_tag_free (head_at state chunk))) hand
    (PutBack chunk (with_tag_free (head_at state chunk)))

-- the hand has the slabs lock, and the chunk is free or dead, in a list of its class, and on the moving page
abbrev pub can_clear : State → ℕ → ChunkId → Bool
can_clear state hand chunk =
    has_slabs state hand && has_chunk state.table chunk && is_on_the_move state.slabs chunk.page && (is_free (head_at state chunk).tag || is_dead (head_at state chunk))
    && is_listed state.slabs (class_of_page state.slabs chunk.page) chunk

-- the chunk of the moving page leaves the list that it is in and is out, with the issue that it had
abbrev pub state_after_clear : State → ℕ → ChunkId → State
state_after_clear state hand chunk =
    with_look (with_head (with_slabs state (slabs_changes.after_clear state.slabs chunk)) chunk (with_tag_out (head_at state chunk))) hand
    (Cleared chunk (with_tag_out (head_at state chunk)))

-- the chunk is the one to be cut next
abbrev pub is_next_uncut : SlabState → ChunkId → Bool
is_next_uncut slabs chunk = option_map_or (λ next. is_chunk next chunk) slabs.uncut false

-- the hand has the slabs lock, and the chunk is the one to be cut next, and out
abbrev pub can_cut : State → ℕ → ChunkId → Bool
can_cut state hand chunk = has_slabs state hand && has_chunk state.table chunk && is_next_uncut state.slabs chunk && is_out (head_at state chunk).tag

-- the chunk is cut: it goes to the head of its class's free list, with the issue that it had
abbrev pub state_after_cut : State → ℕ → ChunkId → State
state_after_cut state hand chunk =
    with_look (with_head (with_slabs state (slabs_changes.after_cut state.slabs chunk)) chunk (with_tag_free (head_at state chunk))) hand
    (Cut chunk (with_tag_free (head_at state chunk)))
