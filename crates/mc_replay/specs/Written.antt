-- The lines that are written of a list's answer and of the state after it.
use Rattle.std.specs.Prelude.{◌≡◌, ℕ, ◌+◌, ◌-◌, ◌^◌, ◌++◌, ◌==◌, true, false, if◌then◌else◌, List, [], ◌∷◌, length, codes, decimal, flat_map, is_some, map, min, slice_get, Bool, Option, Some, None, Result, Ok, Err}
use Rattle.std.specs.BTreeSet.{insert_key}
use Rattle.std.specs.Ordering.{nat_cmp}
use Rattle.mc_classes.specs.Classes.{Classes, IsTableOf, arena_pages_of}
use Rattle.mc_classes.specs.declared.config.Config.{Config}
use Rattle.std.specs.Io.KnownBytes.{Appends}
use Rattle.std.specs.List.{range_with_len}
use Rattle.mc_pages.specs.declared.ids.ChunkId.{ChunkId}
use Rattle.mc_pages.specs.declared.ids.Moving.{Moving}
use Rattle.mc_pages.specs.declared.numbers.Totals.{Totals}
use Rattle.mc_pages.specs.ClassState.{ClassState}
use Rattle.mc_pages.specs.Ledger.{owner_at}
use Rattle.mc_pages.specs.Base as base
use Rattle.mc_pages.specs.SlabState.{SlabState, class_at, totals_of}
use Rattle.mc_stripe.specs.declared.history.Call.{Call}
use Rattle.mc_stripe.specs.declared.history.Call.TheVariants as call
use Rattle.mc_stripe.specs.StripeState.{StripeState, base_stamps, chunk_and_stamp, history_tail, trimmed_of}
use Rattle.mc_core.specs.model.Head.{code}
use Rattle.mc_core.specs.declared.event.Event.{Event}
use Rattle.mc_core.specs.run.Run.{state_after_all}
use Rattle.mc_core.specs.model.State.{State, head_at, most_of, new_state, stripe_at}
use Rattle.mc_pages.specs.declared.ledger.Entry.{Entry}
use Rattle.mc_pages.specs.declared.ledger.Entry.TheVariants as entry
use Rattle.mc_pages.specs.declared.ledger.Owner.{Owner}
use Rattle.mc_pages.specs.declared.ledger.Owner.TheVariants as owner

-- the line of a page's owner, none where nobody has it yet
abbrev pub owner_line : ℕ → Owner → List ℕ
owner_line page owner.Untouched = []
owner_line page owner.Pool = codes "owner " ++ decimal page ++ codes " Pool\n"
owner_line page (owner.Class class) = codes "owner " ++ decimal page ++ codes " Class " ++ decimal class ++ codes "\n"
owner_line page (owner.Moving src dst) = codes "owner " ++ decimal page ++ codes " Moving " ++ decimal src ++ codes " " ++ decimal dst ++ codes "\n"

-- an entry of the ledger, to the end of its line
abbrev pub ledger_entry_text : Entry → List ℕ
ledger_entry_text (entry.Granted page class grace) = codes "Granted " ++ decimal page ++ codes " " ++ decimal class ++ codes " " ++ decimal (if grace then 1 else 0) ++ codes "\n"
ledger_entry_text (entry.Taken page class) = codes "Taken " ++ decimal page ++ codes " " ++ decimal class ++ codes "\n"
ledger_entry_text (entry.Began page src dst) = codes "Began " ++ decimal page ++ codes " " ++ decimal src ++ codes " " ++ decimal dst ++ codes "\n"
ledger_entry_text (entry.Ended page class) = codes "Ended " ++ decimal page ++ codes " " ++ decimal class ++ codes "\n"

-- the line of an entry of the ledger
abbrev pub ledger_entry_line : Entry → List ℕ
ledger_entry_line entry = codes "ledger " ++ ledger_entry_text entry

-- a chunk in a list
abbrev pub chunk_text : ChunkId → List ℕ
chunk_text chunk = decimal chunk.page ++ codes "." ++ decimal chunk.index

-- the chunks of a list, with a space between any two
abbrev pub chunks_text : List ChunkId → List ℕ
chunks_text [] = []
chunks_text (chunk ∷ chunks) = chunk_text chunk ++ flat_map (λ other. codes " " ++ chunk_text other) chunks

-- the line of the page that moves
abbrev pub moving_line : Moving → List ℕ
moving_line move =
    codes "moving " ++ decimal move.page ++ codes " " ++ decimal move.src ++ codes " " ++ decimal move.dst
    ++ codes " at " ++ decimal move.at ++ codes " busy " ++ decimal move.busy ++ codes "\n"

-- the text of the pages in the pool, and of the moves that ended
abbrev pub page_counts : Totals → List ℕ
page_counts totals = codes "totals pool " ++ decimal totals.pool ++ codes " moved " ++ decimal totals.moved

-- the text of what became of items on moving pages
abbrev pub item_counts : Totals → List ℕ
item_counts totals = codes " rescues " ++ decimal totals.rescues ++ codes " nomem " ++ decimal totals.evictions_nomem ++ codes " busy " ++ decimal totals.busy

-- the text of the automover's mode
abbrev pub mode_text : ℕ → List ℕ
mode_text automove = codes " automove " ++ decimal automove ++ codes "\n"

-- the line of the numbers of the whole, and the automover's mode
abbrev pub totals_line : Totals → ℕ → List ℕ
totals_line totals automove = (page_counts totals ++ item_counts totals) ++ mode_text automove

-- the lines of the owners of n pages
abbrev pub owners_text : ℕ → SlabState → List ℕ
owners_text pages slabs = flat_map (λ page. owner_line page (owner_at slabs.owners page)) (range_with_len 0 pages)

-- the text of a class and its free list
abbrev pub free_text : ℕ → List ChunkId → List ℕ
free_text class chunks = (codes "class " ++ decimal class ++ codes " free [") ++ chunks_text chunks

-- the text of a hand-out order
abbrev pub order_text : List ChunkId → List ℕ
order_text chunks = codes "] order [" ++ chunks_text chunks

-- the text of how often a class evicted
abbrev pub evictions_text : ℕ → List ℕ
evictions_text count = codes "] evictions " ++ decimal count ++ codes "\n"

-- the line of a class
abbrev pub class_state_line : ℕ → ClassState → List ℕ
class_state_line class state = (free_text class state.free ++ order_text state.order) ++ evictions_text state.evictions

-- the lines of n classes
abbrev pub class_states_text : ℕ → SlabState → List ℕ
class_states_text count slabs = flat_map (λ place. class_state_line (place + 1) (class_at slabs (place + 1))) (range_with_len 0 count)

-- the line of a page that moves, none where none does
abbrev pub moving_text : Option Moving → List ℕ
moving_text None = []
moving_text (Some move) = moving_line move

-- the line that counts the entries of the ledger that were trimmed, none where none was
abbrev pub trimmed_entries : ℕ → List ℕ
trimmed_entries count = if count == 0 then [] else codes "trimmed ledger " ++ decimal count ++ codes "\n"

-- how many entries were trimmed, and those that are recorded
abbrev pub stored_ledger_text : SlabState → List ℕ
stored_ledger_text slabs = trimmed_entries (min slabs.trimmed (2 ^ 64 - 1)) ++ flat_map ledger_entry_line (base.ledger_tail slabs)

-- the text of what is behind the slabs lock
abbrev pub slab_state_text : Classes → SlabState → List ℕ
slab_state_text table slabs =
    ((owners_text (arena_pages_of table) slabs ++ stored_ledger_text slabs) ++ class_states_text (length table.sizes) slabs)
    ++ (moving_text slabs.moving ++ totals_line (totals_of slabs) slabs.automove)

-- the line of a header that isn't 0
abbrev pub word_text : ChunkId → ℕ → List ℕ
word_text chunk word = if word == 0 then [] else codes "head " ++ decimal chunk.page ++ codes " " ++ decimal chunk.index ++ codes " " ++ decimal word ++ codes "\n"

-- the line of the header of the page's chunk at this index, none where its word is 0
abbrev pub head_text : State → ℕ → ℕ → List ℕ
head_text state page index = word_text (record { page = page; index = index }) (code (head_at state (record { page = page; index = index })))

-- the lines of a page's first headers
abbrev pub page_headers_text : State → ℕ → ℕ → List ℕ
page_headers_text state count page = flat_map (head_text state page) (range_with_len 0 count)

-- the lines of all headers
abbrev pub heads_text : State → List ℕ
heads_text state = flat_map (page_headers_text state (most_of state.table)) (range_with_len 0 (arena_pages_of state.table))

-- a call of a history, to the end of its line
abbrev pub call_text : Call → List ℕ
call_text (call.Set hand key stamp) = codes "Set " ++ decimal hand ++ codes " " ++ decimal key ++ codes " " ++ decimal stamp ++ codes "\n"
call_text (call.Get hand key (Some stamp)) = codes "Get " ++ decimal hand ++ codes " " ++ decimal key ++ codes " " ++ decimal stamp ++ codes "\n"
call_text (call.Get hand key None) = codes "Get " ++ decimal hand ++ codes " " ++ decimal key ++ codes " none\n"
call_text (call.Delete hand key true) = codes "Delete " ++ decimal hand ++ codes " " ++ decimal key ++ codes " true\n"
call_text (call.Delete hand key false) = codes "Delete " ++ decimal hand ++ codes " " ++ decimal key ++ codes " false\n"
call_text (call.Evict hand key) = codes "Evict " ++ decimal hand ++ codes " " ++ decimal key ++ codes "\n"
call_text (call.Rescue hand key) = codes "Rescue " ++ decimal hand ++ codes " " ++ decimal key ++ codes "\n"

-- the line of a call in the history of the stripe of this number
abbrev pub call_line : ℕ → Call → List ℕ
call_line number call = (codes "history " ++ decimal number ++ codes " ") ++ call_text call

-- the line of a key, none where it leads nowhere
abbrev pub index_line : ℕ → ℕ → Option (ChunkId × ℕ) → List ℕ
index_line number key None = []
index_line number key (Some place) =
    (codes "index " ++ decimal number ++ codes " " ++ decimal key)
    ++ (codes " " ++ decimal place.0.page ++ codes " " ++ decimal place.0.index ++ codes " " ++ decimal place.1 ++ codes "\n")

-- the keys of these calls under which something was stored, by rising key, with those that are given
abbrev pub keys_with_stored : List ℕ → List Call → List ℕ
keys_with_stored keys [] = keys
keys_with_stored keys (call.Set hand key stamp ∷ calls) = keys_with_stored (insert_key nat_cmp keys key) calls
keys_with_stored keys (call.Get hand key stamp ∷ calls) = keys_with_stored keys calls
keys_with_stored keys (call.Delete hand key there ∷ calls) = keys_with_stored keys calls
keys_with_stored keys (call.Evict hand key ∷ calls) = keys_with_stored keys calls
keys_with_stored keys (call.Rescue hand key ∷ calls) = keys_with_stored keys calls

-- the lines of those of these keys that lead somewhere
abbrev pub keys_text : ℕ → StripeState → List ℕ → List ℕ
keys_text number stripe keys = flat_map (λ key. index_line number key (chunk_and_stamp stripe key)) keys

-- the keys that the calls left which aren't recorded, by rising key; none for a stripe that records no calls
abbrev pub left_keys : StripeState → List ℕ
left_keys stripe = if is_some stripe.recorded_from then map (λ entry. entry.0) (base_stamps stripe) else []

-- the line that counts the calls that aren't recorded, none where all are
abbrev pub trimmed_line : ℕ → ℕ → List ℕ
trimmed_line number count = if count == 0 then [] else codes "trimmed " ++ decimal number ++ codes " " ++ decimal count ++ codes "\n"

-- the text of what is behind the lock of the stripe of this number: where its keys lead, how many calls aren't recorded, and those that are
abbrev pub stripe_text : ℕ → StripeState → List ℕ
stripe_text number stripe =
    (keys_text number stripe (keys_with_stored (left_keys stripe) (history_tail stripe)) ++ trimmed_line number (min (trimmed_of stripe) (2 ^ 64 - 1)))
    ++ flat_map (call_line number) (history_tail stripe)

-- the text of what is behind the slabs lock, if nobody has it
abbrev pub free_slabs_text : State → List ℕ
free_slabs_text state = if state.slabs_lock == 0 then slab_state_text state.table state.slabs else codes "slabs none\n"

-- a lock is there and nobody has it
abbrev pub is_lock_free : Option ℕ → Bool
is_lock_free None = false
is_lock_free (Some word) = word == 0

-- the text of what is behind the lock of the stripe of this number, if nobody has it
abbrev pub free_stripe_text : State → ℕ → List ℕ
free_stripe_text state number =
    if is_lock_free (slice_get state.stripe_locks number) then stripe_text number (stripe_at state number).state
    else codes "stripe " ++ decimal number ++ codes " none\n"

-- the text of what is behind the locks of n stripes
abbrev pub stripes_text : ℕ → State → List ℕ
stripes_text stripes state = flat_map (free_stripe_text state) (range_with_len 0 stripes)

-- the text of a state with n stripes
abbrev pub standing_text : ℕ → State → List ℕ
standing_text stripes state = (heads_text state ++ free_slabs_text state) ++ stripes_text stripes state

-- what is written of the state after all events, or of the place of the first that isn't allowed
abbrev pub outcome_text : ℕ → Result State ℕ → List ℕ
outcome_text stripes (Ok state) = (codes "answer Ok\n" ++ standing_text stripes state) ++ codes "end\n"
outcome_text stripes (Err place) = codes "answer NotAllowed " ++ decimal place ++ codes "\nend\n"

-- the text is what is to be written of these events, played from the beginning with the table of this configuration
pub record IsAnswer (config : Config) (hands : ℕ) (events : List Event) (text : List ℕ) : Type 0 where
  pub exact : (table : Classes) → IsTableOf config table → text ≡ outcome_text config.stripes (state_after_all (new_state table config.stripes hands 0) events)

-- the bytes are the list's first line, and what is to be written of these events
pub record IsWritten (name : List ℕ) (config : Config) (hands : ℕ) (events : List Event) (bytes : List ℕ) : Type 0 where
  pub exact : (table : Classes) → IsTableOf config table → bytes ≡ (name ++ codes "\n") ++ outcome_text config.stripes (state_after_all (new_state table config.stripes hands 0) events)

-- the bytes that are to be written of this list were added to what a writer held
pub record WritesList (name : List ℕ) (config : Config) (hands : ℕ) (events : List Event) (old new : Option (List ℕ)) : Type 0 where
  pub bytes : List ℕ
  pub is : IsWritten name config hands events bytes
  pub appended : Appends old new bytes
