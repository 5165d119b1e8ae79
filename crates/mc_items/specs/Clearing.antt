-- Deletes of every key of a stripe, in one hold of the stripe's lock.
use Rattle.std.specs.Prelude.{◌≡◌, ℕ, ◌+◌, ◌++◌, ◌%◌, true, fold, List, [], ◌∷◌, length, map, slice_index_or, None, Some}
use Rattle.std.specs.List.Sorted.{IsPermutation}
use Rattle.std.specs.Map.{keys_of}
use Rattle.mc_core.specs.declared.event.Step.TheVariants as step
use Rattle.mc_core.specs.past.Past.{Moment, Own}
use Rattle.mc_core.specs.run.Items.{chunk_of_key}
use Rattle.mc_stripe.specs.Changes.{after_reserve_call}
use Rattle.mc_stripe.specs.StripeState.{ReadyStripe}
use Rattle.mc_stripe.specs.declared.history.Call.TheVariants.{Delete}
use Rattle.mc_words.specs.hand.Observers.{last_given}
use Rattle.mc_words.specs.hand.View.{OwnEvent, View}
use Rattle.mc_words.specs.hand.Views.{call_reserved, stripe_given}
use Rattle.mc_words.specs.item.Calls.{with_own_call}
use Rattle.mc_words.specs.lock.Doing.{Doing}
use Rattle.mc_words.specs.lock.Lent.{IsLentStripe}
use Rattle.mc_words.specs.lock.Wait.{WaitsForStripe}
use Rattle.mc_words.specs.rule.Happens.{Happens}
use Rattle.mc_items.specs.Calls.{Deletes, IsFull}

-- with a stripe's lock the hand made room for a call and deleted a key that was there, for each of these keys in turn
abbrev pub DeletesEach : ℕ → ℕ → List ℕ → Doing
DeletesEach number stripe [] value view left last = (left ≡ value) × (last ≡ view)
DeletesEach number stripe (key ∷ keys) value view left last =
    (next : ReadyStripe) × (between : View)
    × Deletes number stripe key true (after_reserve_call value) (call_reserved stripe value (number + 1) view) next between
    × DeletesEach number stripe keys next between left last

-- a number's own calls with deletes of these keys, each of which was there, behind the others
abbrev pub with_own_deletes : ℕ → ℕ → List ℕ → List Own → List Own
with_own_deletes number stripe keys mine = fold (λ calls key. map (with_own_call number stripe (Delete number key true)) calls) mine keys

-- under the stripe's lock, with this value behind it: each of these keys was deleted, and the lock was given back
pub record DeletesBehind (number stripe : ℕ) (value : ReadyStripe) (keys : List ℕ) (view now : View) : Type 0 where
  -- what was given back
  pub left : ReadyStripe
  pub last : View
  pub deletes : DeletesEach number stripe keys value view left last
  pub mine : slice_index_or last.stripes stripe None ≡ Some left
  pub gives : Happens last [] (step.GiveStripe stripe) now
  pub given : now ≡ stripe_given stripe left last

-- the hand waited for a stripe's lock, deleted each of these keys there, gave the lock back, and did nothing else
pub record HoldsToDelete (number stripe : ℕ) (keys : List ℕ) (view now : View) : Type 0 where
  -- what was found behind the lock
  pub value : ReadyStripe
  pub taken : View
  pub waits : WaitsForStripe stripe view value taken
  pub lent : IsLentStripe taken stripe value
  pub done : DeletesBehind number stripe value keys taken now
  -- the hand's own calls got a delete of each of these keys, in turn, and no other call
  pub calls : now.row.knows.mine ≡ with_own_deletes number stripe keys view.row.knows.mine
  -- what the hand had done before came before the moment in which it gave the lock
  pub behind : (more : List OwnEvent) × (done.last.events ≡ view.events ++ more)

-- at this moment no key of the stripe led anywhere
abbrev pub LeadsNowhere : Moment → ℕ → ℕ → Type 0
LeadsNowhere moment stripes stripe = (key : ℕ) → key % stripes ≡ stripe → chunk_of_key moment.state key ≡ None

-- the hand deleted all keys that it found in the stripe, n in number, in one hold of the stripe's lock
pub record ClearsStripe (number stripe count : ℕ) (view now : View) : Type 0 where
  pub keys : List ℕ
  pub holds : HoldsToDelete number stripe keys view now
  -- the keys are those that the stripe had, each once
  pub each : IsPermutation (keys_of holds.value.state.index) keys
  pub counted : count ≡ length keys
  -- the stripe had no key as its lock was given back
  pub empty : holds.done.left.state.index ≡ []
  pub gone : LeadsNowhere holds.done.gives.was.moment view.setup.config.stripes stripe

-- the hand deleted some keys of the stripe, and then the stripe had no room for the call of the next delete
pub record StopsClearing (number stripe : ℕ) (view now : View) : Type 0 where
  pub keys : List ℕ
  pub holds : HoldsToDelete number stripe keys view now
  pub full : IsFull holds.done.left

-- the stripe had no key as the hand last gave its lock back
abbrev pub GivesBackEmpty : View → ℕ → Type 0
GivesBackEmpty view stripe = (value : ReadyStripe) × (last_given view stripe ≡ Some value) × (value.state.index ≡ [])

-- with a stripe's lock the hand deleted some keys, each of which was there, and the others are left
pub record DeletesSome (number stripe : ℕ) (value : ReadyStripe) (view : View) (left : ReadyStripe) (last : View) : Type 0 where
  pub keys : List ℕ
  pub deletes : DeletesEach number stripe keys value view left last
  pub each : IsPermutation (keys_of value.state.index) (keys ++ keys_of left.state.index)

-- with a stripe's lock the hand deleted all keys, n in number, and gave the lock back
pub record ClearsBehind (number stripe : ℕ) (value : ReadyStripe) (count : ℕ) (view now : View) : Type 0 where
  pub keys : List ℕ
  pub done : DeletesBehind number stripe value keys view now
  pub each : IsPermutation (keys_of value.state.index) keys
  pub counted : count ≡ length keys
  pub empty : done.left.state.index ≡ []

-- with a stripe's lock the hand deleted some keys, found no room for the call of the next delete, and gave the lock back
pub record StopsBehind (number stripe : ℕ) (value : ReadyStripe) (view now : View) : Type 0 where
  pub keys : List ℕ
  pub done : DeletesBehind number stripe value keys view now
  pub full : IsFull done.left
