-- What clauses state of a call: of the hand, and of what was lent to it, before and after.
use Rattle.std.specs.Prelude.{◌≡◌, ◌≢◌, ℕ, ◌%◌, true, Some}
use Rattle.std.specs.Option.{option_map}
use Rattle.mc_pages.specs.declared.ids.ChunkId.{ChunkId}
use Rattle.mc_pages.specs.declared.moves.Found.{Found}
use Rattle.mc_stripe.specs.StripeState.{chunk_and_stamp}
use Rattle.mc_core.specs.model.Head.{is_dead}
use Rattle.mc_core.specs.model.Holdings.{holding_of}
use Rattle.mc_core.specs.law.Seen.{seen_head}
use Rattle.mc_words.specs.declared.hand.Hand.{Hand}
use Rattle.mc_words.specs.declared.hand.held.Fresh.{Fresh}
use Rattle.mc_words.specs.declared.hand.held.SlabsHeld.{SlabsHeld}
use Rattle.mc_words.specs.declared.hand.held.StripeHeld.{StripeHeld}
use Rattle.mc_words.specs.hand.View.{Setup}
use Rattle.mc_words.specs.hand.Arenas.{view}
use Rattle.mc_words.specs.item.Removal.{knows_reason}
use Rattle.mc_words.specs.lock.Doing.{HoldsSlabs, SlabsDoing}
use Rattle.mc_words.specs.hand.Observers.{fresh_chunk, fresh_room, hand_number, slabs_lent, stripe_lent, stripe_number}
use Rattle.mc_words.specs.hand.Views.{copy_holding, slabs_missed}
use Rattle.mc_mover.specs.declared.counts.Turn.{Turn}
use Rattle.mc_mover.specs.Linked.{StripeDoing}
use Rattle.mc_mover.specs.Saving.{GivesEvicted, GivesRescued, MovesItem}
use Rattle.mc_mover.specs.Telling.{RecordsAsCounted, RecordsFewer, counts_in}

-- a key of this stripe leads to the chunk
abbrev pub IsLedTo : Hand → StripeHeld → ChunkId → Type 0
IsLedTo hand held chunk =
    (key : ℕ) × (stamp : ℕ) × (chunk_and_stamp (stripe_lent held).state key ≡ Some (chunk, stamp)) × (key % (view hand).setup.config.stripes ≡ stripe_number held)

-- with the lock of the slabs the hand did this, by its number
abbrev pub ActsByNumber : (ℕ → SlabsDoing) → Hand → SlabsHeld → Hand → SlabsHeld → Type 0
ActsByNumber Does before found now left = Does (hand_number before) (view before) (slabs_lent found) (view now) (slabs_lent left)

-- with the slabs lock and a stripe's lock the hand did this, by its number, until it gave the stripe's lock back
abbrev pub ActsOnStripe : (ℕ → StripeDoing) → Hand → StripeHeld → SlabsHeld → Hand → SlabsHeld → Type 0
ActsOnStripe Does before stripe found now left = Does (hand_number before) (stripe_number stripe) (stripe_lent stripe) (view before) (slabs_lent found) (view now) (slabs_lent left)

-- the hand took the slabs lock, did this, and gave the lock back, once
abbrev pub ActsOnceByNumber : (ℕ → SlabsDoing) → Hand → Hand → Type 0
ActsOnceByNumber Does before now = HoldsSlabs (Does (hand_number before)) (view before) (view now)

-- the hand found the slabs lock with another hand, and did nothing
abbrev pub FindsSlabsHeld : Hand → Hand → Type 0
FindsSlabsHeld before now = (word : ℕ) × (word ≢ 0) × (view now ≡ slabs_missed word (view before))

-- the hand's own calls are more by what the turn counted
abbrev pub RecordsTurn : Hand → Hand → Turn → Type 0
RecordsTurn before now turn = RecordsAsCounted (hand_number before) (counts_in turn) (view before) (view now)

-- the hand's own calls are more by what a turn found that stopped early
abbrev pub RecordsUntilStopped : Hand → Hand → Type 0
RecordsUntilStopped before now = RecordsFewer (hand_number before) (view before) (view now)

-- the hand saw last that the chunk is dead
abbrev pub SeesDead : Hand → ChunkId → Type 0
SeesDead hand chunk = option_map is_dead (seen_head (view hand).row.looks chunk) ≡ Some true

-- the hand knows why the chunk's item may be taken away
abbrev pub KnowsReason : Setup → Hand → SlabsHeld → ChunkId → Type 0
KnowsReason setup hand held chunk = knows_reason (slabs_lent held) (view hand).row.looks (view hand).row.holdings chunk ≡ true

-- the hand's fresh chunk is for a copy of this chunk's item, and nothing is written in it
abbrev pub HasBlankCopy : Hand → ChunkId → Fresh → Type 0
HasBlankCopy hand chunk fresh = (issue : ℕ) × (holding_of (fresh_chunk fresh) (view hand).row.holdings ≡ Some (copy_holding chunk (fresh_chunk fresh) issue (fresh_room fresh)))

-- by what was found: the item was evicted, or was unlinked or held; and the stripe's lock was given back
abbrev pub EvictsAs : ChunkId → Found → ℕ → StripeDoing
EvictsAs chunk found number stripe value view slabs now left = GivesEvicted number stripe value chunk found view now

-- what became of a rescue, by what was found: the item was moved to the fresh chunk; or the item was unlinked or held, and the fresh chunk
-- was given up
abbrev pub RescuesAs : ChunkId → Fresh → Found → ℕ → StripeDoing
RescuesAs chunk fresh found number stripe value = GivesRescued number stripe value chunk (fresh_chunk fresh) (fresh_room fresh) found

-- the item was moved to the fresh chunk
abbrev pub MovesInto : ChunkId → Fresh → Hand → StripeHeld → Hand → StripeHeld → Type 0
MovesInto chunk fresh before stripe now left =
    MovesItem (hand_number before) (stripe_number stripe) chunk (fresh_chunk fresh) (fresh_room fresh) (stripe_lent stripe) (view before) (stripe_lent left) (view now)
