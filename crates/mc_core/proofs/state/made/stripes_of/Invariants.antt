use Rattle.std.proofs.Common.{◌≡◌, replicate}
use Rattle.mc_stripe.specs.StripeState.{new_stripe}
use Rattle.mc_core.proofs.state.made.stripes_of.Given as goal

abbrev pub invariant-loop : goal.invariant-loop
invariant-loop l = l.stripes.items ≡ replicate l.counter new_stripe
