-- Sets: what they do, what they record, and why they are refused.
use Rattle.std.specs.Prelude.{◌≡◌, ◌⊎◌, ℕ, ◌+◌, ◌*◌, List, length, Option, Some, None}
use Rattle.mc_classes.specs.Classes.{class_of}
use Rattle.mc_pages.specs.declared.ids.ChunkId.{ChunkId}
use Rattle.mc_stripe.specs.declared.history.Call.TheVariants as call
use Rattle.mc_words.specs.declared.item.refs.Hint.{Hint}
use Rattle.mc_words.specs.lock.Doing.{HoldsSlabs}
use Rattle.mc_words.specs.hand.Observers.{hint_chunk, hint_issue}
use Rattle.mc_words.specs.item.Items.{issue_in, item_with}
use Rattle.mc_words.specs.hand.View.{View}
use Rattle.mc_words.specs.hand.Tallies.{next_stamp}
use Rattle.mc_stripe.specs.StripeState.{ReadyStripe}
use Rattle.mc_items.specs.Calls.{IsFullToStore, RecordsCall}
use Rattle.mc_items.specs.OnKeys.{stripe_of_key}
use Rattle.mc_items.specs.Evicting.{RecordsEviction}
use Rattle.mc_items.specs.Sources.{SuppliesChunk, SuppliesNone}
use Rattle.mc_items.specs.Storing.{HasOther, LeavesDead, StoresItem, item_filled}
use Rattle.mc_items.specs.declared.comparing.CompareError.{CompareError}
use Rattle.mc_items.specs.declared.comparing.CompareError.TheVariants.{Refused, Differs}
use Rattle.mc_items.specs.declared.comparing.Expected.{Expected}
use Rattle.mc_items.specs.declared.storing.StoreError.{StoreError}
use Rattle.mc_items.specs.declared.storing.StoreError.TheVariants as store
use Rattle.mc_items.specs.declared.setting.NewItem.{NewItem}
use Rattle.mc_items.specs.declared.setting.SetError.{SetError}
use Rattle.mc_items.specs.declared.setting.SetError.TheVariants.{TooLarge, NoRoom, WornOut, NoMemory}

-- the class of an item of these words: key, stamp and length go before them, eight bytes each
abbrev pub class_for_words : View → List ℕ → Option ℕ
class_for_words view words = class_of view.setup.table (24 + 8 * length words)

-- under one hold of the slabs lock the hand got a chunk of the words' class; then it wrote the item into the chunk, and stored it under its
-- key, which had what was expected
pub record SetsItem (expected : Expected) (number key stamp : ℕ) (words : List ℕ) (view now : View) : Type 0 where
  pub class : ℕ
  pub fits : class_for_words view words ≡ Some class
  pub next : next_stamp view.row.ids ≡ Some stamp
  pub chunk : ChunkId
  pub room : ℕ
  pub between : View
  pub supplies : HoldsSlabs (SuppliesChunk number class chunk) view between
  pub stores : StoresItem expected number (stripe_of_key view.setup key) key stamp chunk room (item_filled chunk (item_with key stamp words) between) now

-- the hint has the chunk that the set got, and the issue number with which the chunk was handed out
abbrev pub IsHintOfSet : (expected : Expected) (number key stamp : ℕ) (words : List ℕ) (view now : View) → SetsItem expected number key stamp words view now → Hint → Type 0
IsHintOfSet expected number key stamp words view now sets hint = (hint_chunk hint ≡ sets.chunk) × (hint_issue hint ≡ issue_in sets.between sets.chunk)

-- the item was stored with this stamp in place of what was expected, and has this hint
abbrev pub SetsWithHint : Expected → ℕ → ℕ → NewItem → List ℕ → View → View → Type 0
SetsWithHint expected number key stored words view now =
    (sets : SetsItem expected number key stored.stamp words view now) × IsHintOfSet expected number key stored.stamp words view now sets stored.hint

-- under one hold of the slabs lock no chunk of the words' class was got
pub record FindsNoChunk (number : ℕ) (words : List ℕ) (error : SetError) (view now : View) : Type 0 where
  pub class : ℕ
  pub fits : class_for_words view words ≡ Some class
  pub none : HoldsSlabs (SuppliesNone number class error) view now

-- no class has chunks of that size
abbrev pub IsTooLarge : List ℕ → View → View → Type 0
IsTooLarge words view now = (class_for_words view words ≡ None) × (now ≡ view)

-- the words fit a class, and the hand has no stamp left
abbrev pub HasNoStamp : List ℕ → View → View → Type 0
HasNoStamp words view now = (class : ℕ) × (class_for_words view words ≡ Some class) × (next_stamp view.row.ids ≡ None) × (now ≡ view)

-- a chunk was got; the property holds of the key's stripe, so nothing was stored there, and the chunk was given up
pub record StoresNone (Is : ReadyStripe → Type 0) (number key : ℕ) (words : List ℕ) (view now : View) : Type 0 where
  pub class : ℕ
  pub fits : class_for_words view words ≡ Some class
  pub stamp : ℕ
  pub next : next_stamp view.row.ids ≡ Some stamp
  pub chunk : ChunkId
  pub between : View
  pub supplies : HoldsSlabs (SuppliesChunk number class chunk) view between
  pub dead : LeavesDead Is (stripe_of_key view.setup key) chunk (item_filled chunk (item_with key stamp words) between) now

-- why a set was refused
abbrev pub RefusesSet : ℕ → ℕ → List ℕ → SetError → View → View → Type 0
RefusesSet number key words TooLarge view now = IsTooLarge words view now
RefusesSet number key words NoRoom view now = FindsNoChunk number words NoRoom view now
RefusesSet number key words WornOut view now = HasNoStamp words view now ⊎ FindsNoChunk number words WornOut view now
RefusesSet number key words (NoMemory _) view now = FindsNoChunk number words (NoMemory tt) view now ⊎ StoresNone IsFullToStore number key words view now

-- why a set that expects something was refused: as a set that expects nothing, or a chunk was got and the key has what isn't expected
abbrev pub RefusesCompare : Expected → ℕ → ℕ → List ℕ → CompareError → View → View → Type 0
RefusesCompare expected number key words (Refused error) view now = RefusesSet number key words error view now
RefusesCompare expected number key words (Differs found) view now = StoresNone (HasOther expected found key) number key words view now

-- the refusal of a set whose store was refused so
abbrev pub store_refusal : StoreError → CompareError
store_refusal (store.NoMemory _) = Refused (NoMemory tt)
store_refusal (store.Differs found) = Differs found

-- the hand's own calls got an eviction at most, and then the set
pub record RecordsSet (number key stamp : ℕ) (view now : View) : Type 0 where
  pub between : View
  pub evicts : RecordsEviction number view between
  pub sets : RecordsCall number (stripe_of_key view.setup key) (call.Set number key stamp) between now
