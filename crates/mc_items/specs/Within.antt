-- Calls that try for each lock n times, and why they are refused.
use Rattle.std.specs.Prelude.{◌≡◌, ◌⊎◌, ℕ, List, Some, true}
use Rattle.mc_pages.specs.declared.ids.ChunkId.{ChunkId}
use Rattle.mc_words.specs.declared.hand.Hand.{Hand}
use Rattle.mc_words.specs.declared.hand.held.Fresh.{Fresh}
use Rattle.mc_words.specs.declared.item.refs.Ref as words
use Rattle.mc_words.specs.hand.Arenas.{view}
use Rattle.mc_words.specs.hand.Observers.{fresh_chunk, hand_number, ref_chunk}
use Rattle.mc_words.specs.hand.Tallies.{next_stamp}
use Rattle.mc_words.specs.hand.View.{Setup, View}
use Rattle.mc_words.specs.hand.Views.{chunk_discarded, chunk_released}
use Rattle.mc_words.specs.item.Items.{item_with}
use Rattle.mc_words.specs.lock.Doing.{HoldsSlabs}
use Rattle.mc_words.specs.lock.Wait.{MissesSlabsEachTime, MissesStripeEachTime}
use Rattle.mc_items.specs.Calls.{CallsOn, Finds, RecordsNoCall}
use Rattle.mc_items.specs.OnKeys.{RecordsGet, stripe_of_key}
use Rattle.mc_items.specs.Setting.{RefusesSet, StoresNone, class_for_words}
use Rattle.mc_items.specs.Sources.{SuppliesChunk}
use Rattle.mc_items.specs.Storing.{HasOther, item_filled}
use Rattle.mc_items.specs.declared.comparing.Expected.{Expected}
use Rattle.mc_items.specs.declared.setting.SetError.TheVariants as set_error
use Rattle.mc_items.specs.declared.storing.StoreError.{StoreError}
use Rattle.mc_items.specs.declared.storing.StoreError.TheVariants as store
use Rattle.mc_items.specs.declared.within.comparing.CompareWithinError.{CompareWithinError}
use Rattle.mc_items.specs.declared.within.comparing.CompareWithinError.TheVariants as compare
use Rattle.mc_items.specs.declared.within.SetWithinError.{SetWithinError}
use Rattle.mc_items.specs.declared.within.SetWithinError.TheVariants.{Refused, Held}

-- each try for the stripe's lock missed, and the chunk was given up
pub record LeavesUnlinked (tries stripe : ℕ) (chunk : ChunkId) (view now : View) : Type 0 where
  pub missed : View
  pub misses : MissesStripeEachTime tries stripe view missed
  pub dropped : now ≡ chunk_discarded chunk missed

-- each try for the lock of the key's stripe missed, and the chunk that was filled for this key was given up
abbrev pub MissesFor : Setup → ℕ → ℕ → Fresh → View → View → Type 0
MissesFor setup tries key fresh filled now = LeavesUnlinked tries (stripe_of_key setup key) (fresh_chunk fresh) filled now

-- a chunk was got and filled, each try for the lock of the key's stripe missed, and the chunk was given up
pub record StoresUnlinked (number tries key : ℕ) (words : List ℕ) (view now : View) : Type 0 where
  pub class : ℕ
  pub fits : class_for_words view words ≡ Some class
  pub stamp : ℕ
  pub next : next_stamp view.row.ids ≡ Some stamp
  pub chunk : ChunkId
  pub between : View
  pub supplies : HoldsSlabs (SuppliesChunk number class chunk) view between
  pub dead : LeavesUnlinked tries (stripe_of_key view.setup key) chunk (item_filled chunk (item_with key stamp words) between) now

-- why a set within this many tries was refused: as a set that waits, or each try for the one lock or for the other missed
abbrev pub RefusesWithin : ℕ → ℕ → ℕ → List ℕ → SetWithinError → View → View → Type 0
RefusesWithin number tries key words (Refused error) view now = RefusesSet number key words error view now
RefusesWithin number tries key words Held view now = MissesSlabsEachTime tries view now ⊎ StoresUnlinked number tries key words view now

-- why a set that expects something was refused within this many tries: as a set within them, or the key has what isn't expected
abbrev pub RefusesCompareWithin : Expected → ℕ → ℕ → ℕ → List ℕ → CompareWithinError → View → View → Type 0
RefusesCompareWithin expected number tries key words (compare.Refused error) view now = RefusesWithin number tries key words error view now
RefusesCompareWithin expected number tries key words (compare.Differs found) view now = StoresNone (HasOther expected found key) number key words view now

-- the refusal of a set within n tries whose store was refused so
abbrev pub store_refusal_within : StoreError → CompareWithinError
store_refusal_within (store.NoMemory _) = compare.Refused (Refused (set_error.NoMemory tt))
store_refusal_within (store.Differs found) = compare.Differs found

-- each try for the lock of the key's stripe missed, and nothing else was done
abbrev pub MissesKeyEachTime : Setup → ℕ → ℕ → Hand → Hand → Type 0
MissesKeyEachTime setup tries key before now = MissesStripeEachTime tries (stripe_of_key setup key) (view before) (view now)

-- the key's item was got, as the stripe's history records; then each try for the slabs lock missed, and the reference was released: the item
-- wasn't moved
pub record LeavesUnmoved (number tries stripe key : ℕ) (view now : View) : Type 0 where
  pub reference : words.Ref
  pub got : View
  pub gets : CallsOn number stripe (Finds number stripe key reference) view got
  pub missed : View
  pub misses : MissesSlabsEachTime tries got missed
  pub released : now ≡ chunk_released (ref_chunk reference) missed

-- why a touch within this many tries was held off: each try for the lock of the key's stripe missed, or the item was got and each try for the
-- slabs lock missed
abbrev pub MissesTouch : Setup → ℕ → ℕ → Hand → Hand → Type 0
MissesTouch setup tries key before now =
    MissesKeyEachTime setup tries key before now ⊎ LeavesUnmoved (hand_number before) tries (stripe_of_key setup key) key (view before) (view now)

-- the hand's own calls got no call, or a get of the key, which found an item
abbrev pub RecordsGetOrNone : Setup → ℕ → Hand → Hand → Type 0
RecordsGetOrNone setup key before now = RecordsNoCall (view before) (view now) ⊎ RecordsGet setup key true before now
