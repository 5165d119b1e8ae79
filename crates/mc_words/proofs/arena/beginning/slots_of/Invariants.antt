use Rattle.std.proofs.Common.{◌≡◌, ◌∷◌}
use Rattle.std.specs.Prelude.{replicate}
use Rattle.mc_pages.specs.SlabState.{fresh_slabs}
use Rattle.mc_stripe.specs.StripeState.{new_stripe}
use Rattle.mc_words.specs.declared.lock.slot.Slot.TheVariants.{Empty, OfSlabs, OfStripe}
use Rattle.mc_words.specs.rule.Layout.{spread}
use Rattle.mc_words.specs.lock.Slots.{slots_between}
use Rattle.mc_words.proofs.arena.beginning.slots_of.Given as goal

abbrev pub invariant-loop-stripe : goal.invariant-loop-stripe
invariant-loop-stripe l = l.slots.items ≡ spread slots_between Empty (OfSlabs (fresh_slabs l.plan.table) ∷ replicate l._stripe (OfStripe new_stripe))
