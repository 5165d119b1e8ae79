-- All that there is of one hand, and what it sees behind the locks that it has.
use Rattle.std.specs.Prelude.{ℕ, List, if◌then◌else◌, Option, Some, None}
use Rattle.mc_pages.specs.SlabState.{SlabState}
use Rattle.mc_stripe.specs.StripeState.{ReadyStripe}
use Rattle.mc_core.specs.declared.ids.Ids.{Ids}
use Rattle.mc_core.specs.declared.holding.Holding.{Holding}
use Rattle.mc_core.specs.declared.look.Look.{Look}
use Rattle.mc_core.specs.model.State.{State, ids_at, holdings_at, looks_at, has_slabs, has_stripe, stripe_at}
use Rattle.mc_core.specs.past.Past.{Knowledge, Moment, knowledge_at}

-- who the hand is, what it holds, what it saw under its last hold of the slabs lock, and what it knows
pub record Row : Type 0 where
  pub ids : Ids
  pub holdings : List Holding
  pub looks : List Look
  pub knows : Knowledge

-- all that the moment has of this hand
abbrev pub hand_row : Moment → ℕ → Row
hand_row moment hand = record {
  ids = ids_at moment.state hand;
  holdings = holdings_at moment.state hand;
  looks = looks_at moment.state hand;
  knows = knowledge_at moment.past hand;
}

-- pages and lists, where the hand has their lock; none where it hasn't
abbrev pub held_slabs : State → ℕ → Option SlabState
held_slabs state hand = if has_slabs state hand then Some state.slabs else None

-- a stripe's value, where the hand has its lock; none where it hasn't
abbrev pub held_stripe : State → ℕ → ℕ → Option ReadyStripe
held_stripe state hand stripe = if has_stripe state hand stripe then Some (stripe_at state stripe) else None
