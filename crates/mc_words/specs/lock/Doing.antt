-- What is done under a lock: on a stripe, or on pages and lists.
use Rattle.std.specs.Prelude.{◌≡◌, ℕ, ◌+◌}
use Rattle.mc_pages.specs.SlabState.{SlabState}
use Rattle.mc_stripe.specs.StripeState.{ReadyStripe}
use Rattle.mc_core.specs.declared.event.StripeChange.{StripeChange}
use Rattle.mc_core.specs.declared.event.StripeChange.TheVariants.{Reserve, ReserveCall}
use Rattle.mc_core.specs.run.Silent.{stripe_after}
use Rattle.mc_words.specs.hand.View.{View}
use Rattle.mc_words.specs.hand.Views.{slabs_given, stripe_changed, stripe_given}
use Rattle.mc_words.specs.lock.Wait.{WaitsForSlabs, WaitsForStripe}

-- what is done on a stripe, from its value and the hand's view to those that it leaves
abbrev pub Doing : Type 1
Doing = ReadyStripe → View → ReadyStripe → View → Type 0

-- under the stripe's lock, with this value behind it: room was made by this change, this was done, and the lock was given back
pub record IsDoneBehind (room : StripeChange) (number stripe : ℕ) (value : ReadyStripe) (Does : Doing) (view now : View) : Type 0 where
  pub left : ReadyStripe
  pub last : View
  pub does : Does (stripe_after room value) (stripe_changed room stripe value (number + 1) view) left last
  pub given : now ≡ stripe_given stripe left last

-- under the stripe's lock, with this value behind it: room was made for a call that stores no entry, this was done, and the lock was given
-- back
abbrev pub UsesRoomForCall : ℕ → ℕ → ReadyStripe → Doing → View → View → Type 0
UsesRoomForCall number stripe value Does view now = IsDoneBehind ReserveCall number stripe value Does view now

-- under the stripe's lock, with this value behind it: room was made for a call and an entry, this was done, and the lock was given back
abbrev pub UsesRoomForEntry : ℕ → ℕ → ReadyStripe → Doing → View → View → Type 0
UsesRoomForEntry number stripe value Does view now = IsDoneBehind Reserve number stripe value Does view now

-- what is done under the lock of the slabs, from a view and its pages and lists to those that it leaves
abbrev pub SlabsDoing : Type 1
SlabsDoing = View → SlabState → View → SlabState → Type 0

-- the hand waited for the lock of the slabs, this was done, and the lock was given back
pub record HoldsSlabs (Does : SlabsDoing) (view now : View) : Type 0 where
  pub found : SlabState
  pub taken : View
  pub waits : WaitsForSlabs view found taken
  pub left : SlabState
  pub last : View
  pub does : Does taken found last left
  pub given : now ≡ slabs_given left last

-- the hand waited for the lock of a stripe, this was done, and the lock was given back
pub record HoldsStripe (stripe : ℕ) (Does : Doing) (view now : View) : Type 0 where
  pub found : ReadyStripe
  pub taken : View
  pub waits : WaitsForStripe stripe view found taken
  pub left : ReadyStripe
  pub last : View
  pub does : Does found taken left last
  pub given : now ≡ stripe_given stripe left last
