-- A linked chunk of the moving page, which the mover has looked at: its item is saved under the lock of its key's stripe, or holds up the move.
use Rattle.std.specs.Prelude.{◌≡◌, ◌≢◌, ◌⊎◌, ℕ, ◌%◌, Bool, true, false, [], Some}
use Rattle.std.specs.Option.{option_map}
use Rattle.mc_pages.specs.declared.ids.ChunkId.{ChunkId}
use Rattle.mc_pages.specs.declared.moves.Found.{Found}
use Rattle.mc_pages.specs.declared.moves.Found.TheVariants.{Rescued, Evicted, Busy, Locked}
use Rattle.mc_pages.specs.Changes.{after_clear}
use Rattle.mc_pages.specs.SlabState.{SlabState}
use Rattle.mc_stripe.specs.StripeState.{ReadyStripe, chunk_and_stamp, can_store}
use Rattle.mc_core.specs.declared.event.Step.TheVariants as step
use Rattle.mc_words.specs.hand.View.{View}
use Rattle.mc_words.specs.item.Removal.{key_seen}
use Rattle.mc_words.specs.lock.Doing.{UsesRoomForEntry, SlabsDoing}
use Rattle.mc_words.specs.rule.Happens.{Happens}
use Rattle.mc_words.specs.lock.Lent.{BeginsWithSeen, IsLentStripe}
use Rattle.mc_words.specs.page.Owner.{Clears}
use Rattle.mc_words.specs.chunk.Sweeps.{SweepsOne}
use Rattle.mc_words.specs.hand.Views.{stripe_given, stripe_missed, stripe_taken}
use Rattle.mc_mover.specs.declared.sweep.Sweep.{Sweep}
use Rattle.mc_mover.specs.declared.sweep.Sweep.TheVariants.{Done}
use Rattle.mc_mover.specs.Saving.{BothDoing, Evicts, FailsToEvict, FailsToRescue, Rescues, SweepsToEvict, SweepsToRescue, Sweeping}

-- what is done on a stripe under its lock, whose value was this, until the lock is given back
abbrev pub StripeDoing : Type 1
StripeDoing = ℕ → ReadyStripe → View → SlabState → View → SlabState → Type 0

-- the chunk's key was read
abbrev pub ReadsKey : ChunkId → ℕ → View → View → Type 0
ReadsKey chunk key view now = Happens view [] (step.WordHeld chunk 0) now × (now ≡ key_seen chunk key view)

-- the chunk's key was read, and another hand has the lock of the key's stripe
pub record FindsLocked (chunk : ChunkId) (view now : View) : Type 0 where
  pub key : ℕ
  pub read : View
  pub reads : ReadsKey chunk key view read
  pub word : ℕ
  pub busy : word ≢ 0
  pub is : now ≡ stripe_missed (key % view.setup.config.stripes) word read

-- the chunk's key was read, and the lock of its stripe was taken at once. The stripe's history began with all that the hand had seen of it.
-- Then this was done
pub record ReachesStripe (chunk : ChunkId) (Does : ℕ → StripeDoing) (view : View) (slabs : SlabState) (now : View) (left : SlabState) : Type 0 where
  pub key : ℕ
  pub value : ReadyStripe
  pub read : View
  pub reads : ReadsKey chunk key view read
  pub taken : View
  pub takes : Happens read [] (step.TakeStripe (key % view.setup.config.stripes)) taken
  pub is_taken : taken ≡ stripe_taken (key % view.setup.config.stripes) value read
  pub lent : IsLentStripe taken (key % view.setup.config.stripes) value
  pub begins : BeginsWithSeen view (key % view.setup.config.stripes) value
  pub does : Does key (key % view.setup.config.stripes) value taken slabs now left

-- the lock was given back, and nothing was changed
abbrev pub OnlyGives : StripeDoing
OnlyGives stripe value taken slabs now left = (now ≡ stripe_given stripe value taken) × (left ≡ slabs)

-- the lock was given back, and nothing was changed, since the key leads to another chunk by now, or nowhere
abbrev pub FindsKeyElsewhere : ChunkId → ℕ → StripeDoing
FindsKeyElsewhere chunk key stripe value taken slabs now left = (option_map (λ place. place.0) (chunk_and_stamp value.state key) ≢ Some chunk) × OnlyGives stripe value taken slabs now left

-- the hand made room for a call on the key and its entry, swept the class if a sweep was due, and then did this
abbrev pub SavesWith : ℕ → SlabsDoing → (ℕ → BothDoing) → StripeDoing
SavesWith number Swept Does stripe value taken slabs now left =
    UsesRoomForEntry number stripe value (λ ready view last after. Sweeping Swept (Does stripe) slabs ready view left last after) taken now

-- a copy was given up: then its chunk was put back, or seen in use
pub record GivesCopyUp (number class : ℕ) (chunk : ChunkId) (sweep : Sweep) (stripe : ℕ) (value : ReadyStripe) (taken : View) (slabs : SlabState) (now : View) (left : SlabState) : Type 0 where
  pub copy : ChunkId
  pub failed : View
  pub kept : SlabState
  pub fails : SavesWith number (SweepsToRescue class chunk sweep) (λ stripe. FailsToRescue chunk copy) stripe value taken slabs failed kept
  pub puts : SweepsOne copy failed kept now left

-- what became of the linked chunk's item, by what was found, in a turn whose sweep was due or done
abbrev pub SavesAs : ℕ → ℕ → ChunkId → Sweep → Found → StripeDoing
SavesAs number class chunk sweep Rescued stripe value taken slabs now left =
    SavesWith number (SweepsToRescue class chunk sweep) (λ stripe. Rescues number stripe chunk) stripe value taken slabs now left
SavesAs number class chunk sweep Evicted stripe value taken slabs now left =
    SavesWith number (SweepsToEvict class chunk sweep) (λ stripe. Evicts number stripe chunk) stripe value taken slabs now left
SavesAs number class chunk sweep Busy stripe value taken slabs now left =
    SavesWith number (SweepsToEvict class chunk sweep) (λ stripe. FailsToEvict chunk) stripe value taken slabs now left
    ⊎ GivesCopyUp number class chunk sweep stripe value taken slabs now left
SavesAs number class chunk sweep found stripe value taken slabs now left = ⊥

-- the chunk's key was read, its stripe was taken, the item was saved as was found, and then the dead chunk was cleared
pub record SavesAndClears (number class : ℕ) (chunk : ChunkId) (sweep : Sweep) (found : Found) (view : View) (slabs : SlabState) (now : View) (left : SlabState) : Type 0 where
  pub saved : View
  pub kept : SlabState
  pub reaches : ReachesStripe chunk (λ key. SavesAs number class chunk sweep found) view slabs saved kept
  pub clears : Clears saved kept chunk now
  pub left_is : left ≡ after_clear kept chunk

-- why a linked chunk, seen unheld or held, holds up the move: it was held; its key leads elsewhere by now; or it was held or unlinked
-- before its item could be taken away. The turn's sweep is done only in the last case
abbrev pub HoldsUp : ℕ → ℕ → ChunkId → Sweep → Bool → Sweep → SlabsDoing
HoldsUp number class chunk sweep false next view slabs now left = ReachesStripe chunk (λ key. OnlyGives) view slabs now left × (next ≡ sweep)
HoldsUp number class chunk sweep true next view slabs now left =
    (ReachesStripe chunk (FindsKeyElsewhere chunk) view slabs now left × (next ≡ sweep))
    ⊎ (ReachesStripe chunk (λ key. SavesAs number class chunk sweep Busy) view slabs now left × (next ≡ Done))

-- what was done with a linked chunk that was seen unheld or held, by what was found; and whether the turn's sweep is due or done, before
-- and afterwards
abbrev pub VisitsLinked : ℕ → ℕ → ChunkId → Sweep → Bool → Found → Sweep → SlabsDoing
VisitsLinked number class chunk sweep unheld Rescued next view slabs now left =
    (unheld ≡ true) × SavesAndClears number class chunk sweep Rescued view slabs now left × (next ≡ Done)
VisitsLinked number class chunk sweep unheld Evicted next view slabs now left =
    (unheld ≡ true) × SavesAndClears number class chunk sweep Evicted view slabs now left × (next ≡ Done)
VisitsLinked number class chunk sweep unheld Busy next view slabs now left = HoldsUp number class chunk sweep unheld next view slabs now left
VisitsLinked number class chunk sweep unheld Locked next view slabs now left = FindsLocked chunk view now × (left ≡ slabs) × (next ≡ sweep)
VisitsLinked number class chunk sweep unheld found next view slabs now left = ⊥

-- the lock was given back, and nothing was changed, though the key leads to the chunk
abbrev pub GivesThere : ChunkId → ℕ → StripeDoing
GivesThere chunk key stripe value taken slabs now left = (option_map (λ place. place.0) (chunk_and_stamp value.state key) ≡ Some chunk) × (can_store value ≡ false) × OnlyGives stripe value taken slabs now left

-- the chunk, which was seen unheld, is to be saved, but there was no memory for a call on its key
abbrev pub LacksCallOnKey : ChunkId → Bool → SlabsDoing
LacksCallOnKey chunk unheld view slabs now left = (unheld ≡ true) × ReachesStripe chunk (GivesThere chunk) view slabs now left
