-- A set, from its parts.
use Rattle.std.proofs.Common.{◌≡◌, ℕ, ◌+◌, ◌*◌, ◌/◌, ◌≤◌, List, length, Some, true, refl, ap, sym, subst, ◌∙◌, inl, inr, arith}
use Rattle.std.proofs.lemmas.Bool.{and_from, le-leb}
use Rattle.mc_classes.specs.Classes.{Classes, IsClass, size_of}
use Rattle.mc_pages.specs.declared.ids.ChunkId.{ChunkId}
use Rattle.mc_core.specs.model.State.{is_class, room_in}
use Rattle.mc_words.specs.lock.Doing.{HoldsSlabs}
use Rattle.mc_words.specs.hand.View.{View}
use Rattle.mc_words.proofs.Chunks.Judging.{room_of}
use Rattle.mc_stripe.specs.StripeState.{ReadyStripe}
use Rattle.mc_items.specs.Setting.{RefusesCompare, RefusesSet, StoresNone, class_for_words, store_refusal}
use Rattle.mc_items.specs.Within.{RefusesCompareWithin, store_refusal_within}
use Rattle.mc_items.specs.Sources.{SuppliesNone}
use Rattle.mc_items.specs.Storing.{LeavesDead, RefusesStore}
use Rattle.mc_items.specs.declared.comparing.Expected.{Expected}
use Rattle.mc_items.specs.declared.storing.StoreError.{StoreError}
use Rattle.mc_items.specs.declared.storing.StoreError.TheVariants as store
use Rattle.mc_items.specs.declared.setting.SetError.{SetError}
use Rattle.mc_items.specs.declared.setting.SetError.TheVariants.{TooLarge, NoRoom, WornOut, NoMemory}
use Rattle.mc_items.proofs.Locks.{waits_keep}
use Rattle.mc_items.proofs.Made.{told_of}

-- no chunk was got
pub refuses_so : (number key : ℕ) (words : List ℕ) (error : SetError) (class : ℕ) (view now : View) → class_for_words view words ≡ Some class → HoldsSlabs (SuppliesNone number class error) view now → RefusesSet number key words error view now
refuses_so number key words TooLarge class view now fits holds = absurd holds.does
refuses_so number key words NoRoom class view now fits holds = record { class = class; fits = fits; none = holds }
refuses_so number key words WornOut class view now fits holds = inr (record { class = class; fits = fits; none = holds })
refuses_so number key words (NoMemory _) class view now fits holds = inl (record { class = class; fits = fits; none = holds })

-- a chunk was got, and the store was refused
pub refuses_store : (expected : Expected) (number key : ℕ) (words : List ℕ) (error : StoreError) (view now : View) → StoresNone (RefusesStore error expected key) number key words view now → RefusesCompare expected number key words (store_refusal error) view now
refuses_store expected number key words (store.NoMemory _) view now none = inr none
refuses_store expected number key words (store.Differs found) view now none = none

-- a chunk was got, and the store was refused, in a set within n tries
pub refuses_store_within : (expected : Expected) (number tries key : ℕ) (words : List ℕ) (error : StoreError) (view now : View) → StoresNone (RefusesStore error expected key) number key words view now → RefusesCompareWithin expected number tries key words (store_refusal_within error) view now
refuses_store_within expected number tries key words (store.NoMemory _) view now none = inr none
refuses_store_within expected number tries key words (store.Differs found) view now none = none

-- who gave its chunk up said nothing and made no call
pub dead_tells : {Is : ReadyStripe → Type 0} (stripe : ℕ) (chunk : ChunkId) (view now : View) → LeavesDead Is stripe chunk view now → told_of now ≡ told_of view
dead_tells stripe chunk view now dead =
    ap told_of dead.dropped ∙ (ap told_of dead.waits.given ∙ waits_keep told_of stripe (λ word v. refl) (λ value v. refl) view dead.waits.value dead.waits.taken dead.waits.waits)

-- the words and the three before them fit into a chunk of their class
pub words_fit : (table : Classes) (class count room : ℕ) → is_class table class ≡ true → 24 + 8 * count ≤ size_of table class → room ≡ room_in table class → 3 + count ≤ room
words_fit table class count room is fits room_is =
    let size : ℕ = size_of table class in
    let rooms : size / 8 ≡ room_in table class = room_of table class size is refl in
    subst (λ n. 3 + count ≤ n) (rooms ∙ sym room_is) (wide size fits)
  where
    wide : (size : ℕ) → 24 + 8 * count ≤ size → 3 + count ≤ size / 8
    wide size most = omega arith

-- a class of the table
pub class_there : (table : Classes) (class : ℕ) → IsClass table class → is_class table class ≡ true
class_there table class is = and_from _ _ (le-leb 1 class is.0) (le-leb class (length table.sizes) is.1)
