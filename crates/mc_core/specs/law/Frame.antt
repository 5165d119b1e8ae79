-- What every change and every step leaves as it was.
use Rattle.std.specs.Prelude.{◌≡◌, ◌≢◌, ◌⊎◌, ℕ, ◌==◌, Bool, true, false, length}
use Rattle.mc_core.specs.declared.event.Change.{Change}
use Rattle.mc_core.specs.declared.event.Step.{Step}
use Rattle.mc_core.specs.declared.event.Step.TheVariants.{Join}
use Rattle.mc_core.specs.model.State.{State, has_slabs, has_stripe, stripe_at}
use Rattle.mc_core.specs.past.Past.{Moment, moment_changed, moment_stepped}
use Rattle.mc_core.specs.model.Views.{hand_row, held_slabs, held_stripe}
use Rattle.mc_core.specs.law.Laws.{MayChange, MayStep}

-- pages and lists, and the value of each stripe, are as they were, or the hand has their lock
pub record ChangesUnderLocks (before now : State) (hand : ℕ) : Type 0 where
  pub slabs : (now.slabs ≡ before.slabs) ⊎ (has_slabs before hand ≡ true)
  pub stripes : (stripe : ℕ) → (stripe_at now stripe ≡ stripe_at before stripe) ⊎ (has_stripe before hand stripe ≡ true)
  pub count : length now.stripes ≡ length before.stripes

-- the hand has what it had, and sees the same behind the locks that it has
pub record HasSame (before now : Moment) (hand : ℕ) : Type 0 where
  pub row : hand_row now hand ≡ hand_row before hand
  pub slabs : held_slabs now.state hand ≡ held_slabs before.state hand
  pub stripes : (stripe : ℕ) → held_stripe now.state hand stripe ≡ held_stripe before.state hand stripe

-- what is done by one hand leaves the table, what other hands have, and what is behind locks that the hand hasn't
pub record IsFramed (before now : Moment) (hand : ℕ) (IsOther : ℕ → Type 0) : Type 0 where
  pub table : now.state.table ≡ before.state.table
  pub hands : length now.state.ids ≡ length before.state.ids
  pub guarded : ChangesUnderLocks before.state now.state hand
  pub others : (other : ℕ) → IsOther other → HasSame before now other

-- the step takes this hand over
abbrev pub takes_over : Step → ℕ → Bool
takes_over (Join kept spent) other = spent == other
takes_over step other = false

-- every change and every step of a hand leaves the table, what other hands have, and what is behind locks that the hand hasn't. A join
-- changes what the hand has that it takes over
pub record AreFramed : Type 0 where
  pub changes : (moment : Moment) (hand : ℕ) (change : Change) → MayChange moment hand change → IsFramed moment (moment_changed moment hand change) hand (λ other. other ≢ hand)
  pub steps : (moment : Moment) (hand : ℕ) (step : Step) → MayStep moment hand step →
      IsFramed moment (moment_stepped moment hand step) hand (λ other. (other ≢ hand) × (takes_over step other ≡ false))
