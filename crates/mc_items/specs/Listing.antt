-- Looks at a stripe's index.
use Rattle.std.specs.Prelude.{◌≡◌, ⊤, ℕ, List, length}
use Rattle.mc_stripe.specs.Keys.{AddsKeys}
use Rattle.mc_stripe.specs.StripeState.{ReadyStripe}

-- the stripe has n keys
abbrev pub HasKeyCount : ℕ → ReadyStripe → Type 0
HasKeyCount count value = count ≡ length value.state.index

-- behind the old keys come those that the stripe has, each once
abbrev pub HasKeysPut : List ℕ → List ℕ → ReadyStripe → Type 0
HasKeysPut old new value = AddsKeys value.state.index old new

-- the stripe is any
abbrev pub IsAny : ReadyStripe → Type 0
IsAny value = ⊤
