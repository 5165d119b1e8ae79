-- Gets by hints, put into the histories of their stripes.
use Rattle.std.specs.Prelude.{◌≡◌, ℕ, List, [], ◌∷◌, ◌++◌, Some}
use Rattle.mc_stripe.specs.declared.history.Call.{Call}
use Rattle.mc_stripe.specs.declared.history.Call.TheVariants.{Get}
use Rattle.mc_stripe.specs.History.{Stamps, stamps_after_calls}
use Rattle.mc_core.specs.declared.event.Event.{Event}
use Rattle.mc_core.specs.law.Laws.{IsRun, moment_at_end}
use Rattle.mc_core.specs.model.State.{stripe_of}
use Rattle.mc_core.specs.past.Past.{Moment, history_at}
use Rattle.mc_words.specs.declared.item.refs.Hint.{Hint}
use Rattle.mc_words.specs.hand.View.{View}
use Rattle.mc_items.specs.Current.{GetsCurrent}
use Rattle.mc_items.specs.declared.refs.Ref.{Ref}
use Rattle.mc_items.specs.ItemRefs.{item_key, item_stamp}

-- the stripe's later history goes on from the earlier one; with this call put in between it is legal, and leaves the same stamps
pub record TakesIn (call : Call) (stripe : ℕ) (earlier later : Moment) : Type 0 where
  -- the calls that came meanwhile
  pub more : List Call
  pub goes_on : history_at later.state stripe ≡ history_at earlier.state stripe ++ more
  pub stamps : Stamps
  pub legal : stamps_after_calls [] (history_at earlier.state stripe ++ call ∷ more) ≡ Some stamps
  pub same : stamps_after_calls [] (history_at later.state stripe) ≡ Some stamps

-- the moment of the exchange by which the hand got the item of a hint
abbrev pub exchange_of : {hint : Hint} {item : Ref} {view now : View} → GetsCurrent hint item view now → Moment
exchange_of got = got.gets.1.refers.happens.was.moment

-- *a get by a hint is legal in its stripe's history*: whatever events follow the exchange, a get of the item's key that found the item's stamp
-- can be put in at the moment of the exchange, by a hand of any number
abbrev pub HintedGetsAreLegal : Type 0
HintedGetsAreLegal = (hint : Hint) (item : Ref) (view now : View) (got : GetsCurrent hint item view now) (number : ℕ) (events : List Event) → IsRun (exchange_of got) events →
    TakesIn (Get number (item_key item) (Some (item_stamp item))) (stripe_of (exchange_of got).state (item_key item)) (exchange_of got) (moment_at_end (exchange_of got) events)

-- *such a get changes no other reply*: whatever calls stand behind it, they replay as without it. So several gets can be put in, one by one
abbrev pub HintedGetsLeaveOthers : Type 0
HintedGetsLeaveOthers = (hint : Hint) (item : Ref) (view now : View) (got : GetsCurrent hint item view now) (number : ℕ) (more : List Call) →
    let before = history_at (exchange_of got).state (stripe_of (exchange_of got).state (item_key item)) in
    stamps_after_calls [] (before ++ Get number (item_key item) (Some (item_stamp item)) ∷ more) ≡ stamps_after_calls [] (before ++ more)
