use Rattle.std.proofs.Common.{◌∷◌, ◌++◌, ap, ◌∙◌}
use Rattle.std.specs.Prelude.{replicate}
use Rattle.mc_pages.specs.SlabState.{fresh_slabs}
use Rattle.mc_stripe.specs.StripeState.{ReadyStripe, new_stripe}
use Rattle.mc_words.specs.declared.lock.slot.Slot.TheVariants.{Empty, OfSlabs, OfStripe}
use Rattle.mc_words.specs.lock.Slots.{slots_between}
use Rattle.mc_words.proofs.Rules.Opens.{one_slot_more}
use Rattle.mc_words.proofs.arena.beginning.slots_of.Goals as goal

pub loop-stripe-preserved : goal.loop-stripe-preserved
loop-stripe-preserved c =
    c.in_ok-push_apart-2.ensures.slots
    ∙ (ap (λ (x : ReadyStripe). c.loop-stripe.slots.items ++ OfStripe x ∷ replicate slots_between Empty) (c.in_ok-stripe.ensures.boxed ∙ c.new-in-loop-stripe.ensures.new)
    ∙ one_slot_more (OfSlabs (fresh_slabs c.args.plan.now.table)) c.loop-stripe._stripe (OfStripe new_stripe) c.loop-stripe.slots.items c.loop-stripe.invariant)
