-- Items of the moving page that are taken to another chunk, or evicted where there is none: what is done under the locks of the slabs and
-- of the key's stripe.
use Rattle.std.specs.Prelude.{◌≡◌, ◌⊎◌, ℕ, ◌+◌, ◌≤◌, length}
use Rattle.mc_pages.specs.declared.ids.ChunkId.{ChunkId}
use Rattle.mc_pages.specs.declared.moves.Found.{Found}
use Rattle.mc_pages.specs.declared.moves.Found.TheVariants.{Busy, Evicted, Rescued}
use Rattle.mc_pages.specs.Changes.{after_replace}
use Rattle.mc_pages.specs.SlabState.{SlabState, class_at, class_of_page}
use Rattle.mc_stripe.specs.StripeState.{ReadyStripe}
use Rattle.mc_stripe.specs.Changes.{after_rescue, used_up}
use Rattle.mc_core.specs.model.State.{room_in}
use Rattle.mc_words.specs.hand.View.{View}
use Rattle.mc_words.specs.item.Removal.{Condemns, FindsHeld}
use Rattle.mc_words.specs.lock.Doing.{SlabsDoing}
use Rattle.mc_words.specs.item.Items.{issue_in, known_words_in}
use Rattle.mc_words.specs.item.Links.{copy_linked}
use Rattle.mc_words.specs.item.Originals.{CondemnsOriginal}
use Rattle.mc_words.specs.chunk.Copies.{PassesAll, PopsOff}
use Rattle.mc_words.specs.chunk.Sweeps.{Sweeps, SweepsOne}
use Rattle.mc_words.specs.hand.Views.{chunk_discarded, chunk_released, stripe_given}
use Rattle.mc_mover.specs.declared.sweep.Sweep.{Sweep}
use Rattle.mc_mover.specs.declared.sweep.Sweep.TheVariants.{Due, Done}
use Rattle.mc_mover.specs.Copying.{Copies}

-- what is done under both locks, from pages and lists, the stripe and the hand's view to those that it leaves
abbrev pub BothDoing : Type 1
BothDoing = SlabState → ReadyStripe → View → SlabState → ReadyStripe → View → Type 0

-- each free chunk of the class was passed over, and none could be had for a copy of the chunk's item
abbrev pub FindsNoTarget : ChunkId → SlabState → View → View → Type 0
FindsNoTarget chunk slabs view now = PassesAll chunk.page (class_at slabs (class_of_page slabs chunk.page)).free view now

-- no free chunk could be had for a copy of the item, and then the dead chunks of the class were put back
pub record SweepsForTarget (class : ℕ) (chunk : ChunkId) (view : View) (slabs : SlabState) (now : View) (left : SlabState) : Type 0 where
  pub passed : View
  pub none : FindsNoTarget chunk slabs view passed
  pub sweeps : Sweeps (class_at slabs class).order passed slabs now left

-- what comes before an item is evicted: a sweep; in a turn that made its own before, once no free chunk could be had
abbrev pub SweepsToEvict : ℕ → ChunkId → Sweep → SlabsDoing
SweepsToEvict class chunk Due view slabs now left = Sweeps (class_at slabs class).order view slabs now left
SweepsToEvict class chunk Done view slabs now left = SweepsForTarget class chunk view slabs now left

-- what comes before an item is taken to a free chunk: a sweep. In a turn that made its sweep before, one comes only where no free chunk
-- could be had
abbrev pub SweepsToRescue : ℕ → ChunkId → Sweep → SlabsDoing
SweepsToRescue class chunk Due view slabs now left = Sweeps (class_at slabs class).order view slabs now left
SweepsToRescue class chunk Done view slabs now left = ((now ≡ view) × (left ≡ slabs)) ⊎ SweepsForTarget class chunk view slabs now left

-- the class was swept, or not, as it had to be, and then this was done
pub record Sweeping (Swept : SlabsDoing) (Does : BothDoing) (slabs : SlabState) (value : ReadyStripe) (view : View) (kept : SlabState) (left : ReadyStripe) (now : View) : Type 0 where
  pub swept : View
  pub between : SlabState
  pub sweeps : Swept view slabs swept between
  pub does : Does between value swept kept left now

-- no free chunk could be had for a copy, and the item was evicted
pub record Evicts (number stripe : ℕ) (chunk : ChunkId) (slabs : SlabState) (value : ReadyStripe) (view : View) (kept : SlabState) (left : ReadyStripe) (now : View) : Type 0 where
  pub passed : View
  pub passes : FindsNoTarget chunk slabs view passed
  pub condemns : Condemns number stripe chunk value passed left now
  pub same : kept ≡ slabs

-- no free chunk could be had for a copy, and the item was found unlinked or held
pub record FailsToEvict (chunk : ChunkId) (slabs : SlabState) (value : ReadyStripe) (view : View) (kept : SlabState) (left : ReadyStripe) (now : View) : Type 0 where
  pub passed : View
  pub passes : FindsNoTarget chunk slabs view passed
  pub finds : FindsHeld passed chunk now
  pub same : (kept ≡ slabs) × (left ≡ value)

-- the item was copied, taken away, and linked again in its copy, which was let go
pub record MovesItem (number stripe : ℕ) (chunk copy : ChunkId) (room : ℕ) (value : ReadyStripe) (view : View) (left : ReadyStripe) (now : View) : Type 0 where
  pub key : ℕ
  pub stamp : ℕ
  pub filled : View
  pub copies : Copies chunk copy key stamp view filled
  -- the item fits the chunk of its copy
  pub fits : 3 + length copies.words ≤ room
  pub condemned : View
  pub lifted : ReadyStripe
  pub condemns : CondemnsOriginal stripe chunk value filled lifted condemned
  pub is : now ≡ chunk_released copy (copy_linked number stripe lifted key copy (issue_in condemned copy) (known_words_in condemned copy) room condemned)
  pub left_is : left ≡ used_up (after_rescue lifted.state number key copy)

-- the item was copied, but then found unlinked or held, and the copy was given up
pub record FailsToMove (chunk copy : ChunkId) (view now : View) : Type 0 where
  pub key : ℕ
  pub stamp : ℕ
  pub filled : View
  pub copies : Copies chunk copy key stamp view filled
  pub found : View
  pub finds : FindsHeld filled chunk found
  pub dropped : now ≡ chunk_discarded copy found

-- a free chunk was handed out for a copy, in the chunk's place, and the item was moved to it
pub record Rescues (number stripe : ℕ) (chunk : ChunkId) (slabs : SlabState) (value : ReadyStripe) (view : View) (kept : SlabState) (left : ReadyStripe) (now : View) : Type 0 where
  pub copy : ChunkId
  pub popped : View
  pub pops : PopsOff view slabs chunk copy popped
  pub moves : MovesItem number stripe chunk copy (room_in view.setup.table (class_of_page slabs chunk.page)) value popped left now
  pub kept_is : kept ≡ after_replace slabs copy chunk

-- a free chunk was handed out for a copy, in the chunk's place, but the item couldn't be moved
pub record FailsToRescue (chunk copy : ChunkId) (slabs : SlabState) (value : ReadyStripe) (view : View) (kept : SlabState) (left : ReadyStripe) (now : View) : Type 0 where
  pub popped : View
  pub pops : PopsOff view slabs chunk copy popped
  pub fails : FailsToMove chunk copy popped now
  pub kept_is : kept ≡ after_replace slabs copy chunk
  pub same : left ≡ value

-- the item was evicted, or found unlinked or held, by what was found; and the stripe's lock was given back
abbrev pub GivesEvicted : ℕ → ℕ → ReadyStripe → ChunkId → Found → View → View → Type 0
GivesEvicted number stripe value chunk Evicted view now =
    (left : ReadyStripe) × (last : View) × Condemns number stripe chunk value view left last × (now ≡ stripe_given stripe left last)
GivesEvicted number stripe value chunk Busy view now = (last : View) × FindsHeld view chunk last × (now ≡ stripe_given stripe value last)
GivesEvicted number stripe value chunk found view now = ⊥

-- the item was moved to its copy; or the copy was given up, and then its chunk was put back, or seen in use
abbrev pub GivesRescued : ℕ → ℕ → ReadyStripe → ChunkId → ChunkId → ℕ → Found → SlabsDoing
GivesRescued number stripe value chunk copy room Rescued view slabs now left =
    (after : ReadyStripe) × (last : View) × MovesItem number stripe chunk copy room value view after last × (now ≡ stripe_given stripe after last) × (left ≡ slabs)
GivesRescued number stripe value chunk copy room Busy view slabs now left =
    (last : View) × FailsToMove chunk copy view last × SweepsOne copy (stripe_given stripe value last) slabs now left
GivesRescued number stripe value chunk copy room found view slabs now left = ⊥

-- the item went to a free chunk that was handed out for a copy, or couldn't be moved, by what was found; and the stripe's lock was given back
pub record RescuesToTarget (number : ℕ) (chunk : ChunkId) (found : Found) (stripe : ℕ) (value : ReadyStripe) (view : View) (slabs : SlabState) (now : View) (left : SlabState) : Type 0 where
  pub copy : ChunkId
  pub popped : View
  pub pops : PopsOff view slabs chunk copy popped
  pub gives : GivesRescued number stripe value chunk copy (room_in view.setup.table (class_of_page slabs chunk.page)) found popped (after_replace slabs copy chunk) now left

-- no free chunk could be had: the item was evicted, or found unlinked or held, by what was found; and the stripe's lock was given back
pub record EvictsWithoutTarget (number : ℕ) (chunk : ChunkId) (found : Found) (stripe : ℕ) (value : ReadyStripe) (view : View) (slabs : SlabState) (now : View) (left : SlabState) : Type 0 where
  pub passed : View
  pub passes : FindsNoTarget chunk slabs view passed
  pub gives : GivesEvicted number stripe value chunk found passed now
  pub same : left ≡ slabs

-- the dead chunks of the class were put back, and then the item was rescued to a free chunk, or evicted as there was none
pub record SweepsAndSaves (number class : ℕ) (chunk : ChunkId) (found : Found) (stripe : ℕ) (value : ReadyStripe) (view : View) (slabs : SlabState) (now : View) (left : SlabState) : Type 0 where
  pub swept : View
  pub between : SlabState
  pub sweeps : Sweeps (class_at slabs class).order view slabs swept between
  pub saves : RescuesToTarget number chunk found stripe value swept between now left ⊎ EvictsWithoutTarget number chunk found stripe value swept between now left
