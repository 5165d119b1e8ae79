-- Calls on keys: the lock of the key's stripe is taken, the call is made there, and the lock is given back.
use Rattle.std.specs.Prelude.{◌≡◌, ℕ, ◌+◌, Bool, true, false, is_some, if◌then◌else◌, map, Option, Some, None, []}
use Rattle.mc_pages.specs.declared.ids.ChunkId.{ChunkId}
use Rattle.mc_pages.specs.Changes.{after_touch}
use Rattle.mc_core.specs.declared.event.Change.TheVariants.{Touch}
use Rattle.mc_core.specs.declared.event.Step.TheVariants as step
use Rattle.mc_core.specs.declared.event.StripeChange.{StripeChange}
use Rattle.mc_core.specs.declared.event.StripeChange.TheVariants.{ReserveCall}
use Rattle.mc_stripe.specs.declared.history.Call.{Call}
use Rattle.mc_stripe.specs.StripeState.{ReadyStripe, chunk_and_stamp, can_store}
use Rattle.mc_stripe.specs.Changes.{after_got, after_unlink, used_up}
use Rattle.mc_words.specs.lock.Doing.{Doing, HoldsSlabs, IsDoneBehind, SlabsDoing}
use Rattle.mc_words.specs.hand.View.{View}
use Rattle.mc_words.specs.item.Calls.{with_own_call, key_deleted, key_missed, key_not_deleted}
use Rattle.mc_words.specs.lock.Lent.{IsLentStripe}
use Rattle.mc_words.specs.item.References.{GetsItem}
use Rattle.mc_words.specs.hand.Views.{chunk_released, with_event, slabs_changed, stripe_given}
use Rattle.mc_words.specs.lock.Wait.{WaitsForStripe}
use Rattle.mc_words.specs.declared.item.refs.Ref as words
use Rattle.mc_words.specs.hand.Observers.{ref_chunk, ref_issue, ref_room}

-- the hand waited for the stripe's lock, made room by this change, did this, and gave the lock back
pub record CallsBehind (room : StripeChange) (number stripe : ℕ) (Does : Doing) (view now : View) : Type 0 where
  pub value : ReadyStripe
  pub taken : View
  pub waits : WaitsForStripe stripe view value taken
  pub lent : IsLentStripe taken stripe value
  pub done : IsDoneBehind room number stripe value Does taken now

-- the hand waited for the stripe's lock, made room for a call that stores no entry, did this, and gave the lock back
abbrev pub CallsOn : ℕ → ℕ → Doing → View → View → Type 0
CallsOn number stripe Does view now = CallsBehind ReserveCall number stripe Does view now

-- the stripe records its calls, and has no room for one more
abbrev pub IsFull : ReadyStripe → Type 0
IsFull value = (value.ready ≡ false) × (is_some value.state.recorded_from ≡ true)

-- the stripe has no room for one more call and its entry
abbrev pub IsFullToStore : ReadyStripe → Type 0
IsFullToStore value = can_store value ≡ false

-- the hand waited for the stripe's lock, found that the property holds of the stripe, and gave the lock back as it was
pub record FindsStripe (Is : ReadyStripe → Type 0) (stripe : ℕ) (view now : View) : Type 0 where
  pub value : ReadyStripe
  pub taken : View
  pub waits : WaitsForStripe stripe view value taken
  pub lent : IsLentStripe taken stripe value
  pub full : Is value
  pub given : now ≡ stripe_given stripe value taken

-- the hand waited for the stripe's lock, found that the stripe records calls and has no room for one more, and gave the lock back
abbrev pub OnlyWaits : ℕ → View → View → Type 0
OnlyWaits stripe view now = FindsStripe IsFull stripe view now

-- the hand looked the key up, and got this reference to its item
abbrev pub Finds : ℕ → ℕ → ℕ → words.Ref → Doing
Finds number stripe key r value view left now =
    GetsItem view number stripe value key (ref_chunk r) (ref_issue r) (ref_room r) now × (left ≡ used_up (after_got value.state number key))

-- the key was looked up, and has no item
abbrev pub FindsNone : ℕ → ℕ → ℕ → Doing
FindsNone number stripe key value view left now =
    (chunk_and_stamp value.state key ≡ None) × (now ≡ key_missed number stripe value key view) × (left ≡ used_up (after_got value.state number key))

-- the hand looked the key up, and got this reference to its item, or there is no item
abbrev pub LooksUp : ℕ → ℕ → ℕ → Option words.Ref → Doing
LooksUp number stripe key (Some r) = Finds number stripe key r
LooksUp number stripe key None = FindsNone number stripe key

-- under the lock of the slabs: this chunk went to the back of its class's hand-out order
abbrev pub Bumps : ℕ → ChunkId → SlabsDoing
Bumps number chunk view slabs now left = (left ≡ after_touch slabs chunk) × (now ≡ slabs_changed slabs (Touch chunk) (number + 1) view)

-- the key's item was got; then its chunk went to the back of its hand-out order, under the lock of the slabs, and was released
pub record Touches (number stripe key : ℕ) (view now : View) : Type 0 where
  pub reference : words.Ref
  pub got : View
  pub gets : CallsOn number stripe (Finds number stripe key reference) view got
  pub bumped : View
  pub bumps : HoldsSlabs (Bumps number (ref_chunk reference)) got bumped
  pub released : now ≡ chunk_released (ref_chunk reference) bumped

-- the key was deleted, and had an item or none
abbrev pub Deletes : ℕ → ℕ → ℕ → Bool → Doing
Deletes number stripe key there value view left now =
    (there ≡ is_some (chunk_and_stamp value.state key))
    × (now ≡ (if there then with_event [] (step.Unlink key) (key_deleted number stripe value key true view) else key_not_deleted number stripe value key view))
    × (left ≡ used_up (after_unlink value.state number key))

-- the hand's own calls on keys of this stripe got this call, as the last of its number, and no other call came
abbrev pub RecordsCall : ℕ → ℕ → Call → View → View → Type 0
RecordsCall number stripe call view now = now.row.knows.mine ≡ map (with_own_call number stripe call) view.row.knows.mine

-- the hand's own calls are as before
abbrev pub RecordsNoCall : View → View → Type 0
RecordsNoCall view now = now.row.knows.mine ≡ view.row.knows.mine
