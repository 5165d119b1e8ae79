-- The lock of the slabs: taken at once, and that a hand that has it alone has no stripe's.
use Rattle.std.proofs.Common.{◌≡◌, true, [], refl, ◌∙◌}
use Rattle.mc_pages.specs.SlabState.{SlabState}
use Rattle.mc_core.specs.declared.event.Step.TheVariants as step
use Rattle.mc_words.specs.declared.hand.Hand.{Hand}
use Rattle.mc_words.specs.declared.lock.locks.Locks.{Locks}
use Rattle.mc_words.specs.declared.lock.locks.Locks.TheVariants.{Neither, Slabs, Stripe, SlabsLast, StripeLast}
use Rattle.mc_words.specs.hand.View.{View}
use Rattle.mc_words.specs.hand.Arenas.{view}
use Rattle.mc_words.specs.rule.Happens.{Happens}
use Rattle.mc_words.specs.hand.Idle.{is_unlocked}
use Rattle.mc_words.specs.lock.Out.{locks_have_no_stripe, is_neither, locks_with_slabs}
use Rattle.mc_words.specs.hand.Views.{slabs_taken}
use Rattle.mc_words.specs.lock.Wait.{WaitsForSlabs}
use Rattle.mc_words.proofs.Locks.Unlocked.{unlocked_from}

-- a hand that took the lock of the slabs alone has no stripe's
pub none_with_slabs : (hand : Hand) → is_unlocked (view hand) ≡ true → locks_have_no_stripe (locks_with_slabs hand.locks) ≡ true
none_with_slabs hand unlocked = by hand.locks (unlocked_from hand.seat.me.0 hand.locks hand.noted.4 ∙ unlocked)
  where
    by : (locks : Locks) → is_neither locks ≡ true → locks_have_no_stripe (locks_with_slabs locks) ≡ true
    by Neither none = refl
    by Slabs none = absurd (cc)
    by (Stripe other) none = absurd (cc)
    by (SlabsLast other) none = absurd (cc)
    by (StripeLast other) none = absurd (cc)

-- a try that took the lock waited for nobody
pub taken_at_once : (slabs : SlabState) (before now : View) → Happens before [] step.TakeSlabs now → now ≡ slabs_taken slabs before → WaitsForSlabs before slabs now
taken_at_once slabs before now happens is = record { words = []; before = before; misses = refl; taken = happens; is = is }
