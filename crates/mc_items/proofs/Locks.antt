-- What a hand keeps while it waits for a stripe's lock, and that its locks are as before once it gave that back.
use Rattle.std.proofs.Common.{◌≡◌, ℕ, true, List, [], ◌∷◌, refl, sym, ap, ◌∙◌}
use Rattle.mc_pages.specs.SlabState.{SlabState}
use Rattle.mc_stripe.specs.StripeState.{ReadyStripe}
use Rattle.mc_words.specs.declared.hand.Hand.{Hand}
use Rattle.mc_words.specs.declared.lock.locks.Locks.{Locks}
use Rattle.mc_words.specs.declared.lock.locks.Locks.TheVariants.{Neither, Slabs, Stripe, SlabsLast, StripeLast}
use Rattle.mc_words.specs.hand.View.{View}
use Rattle.mc_words.specs.hand.Arenas.{view}
use Rattle.mc_core.specs.declared.event.Step.TheVariants as step
use Rattle.mc_words.specs.rule.Happens.{Happens}
use Rattle.mc_words.specs.hand.Idle.{is_unlocked}
use Rattle.mc_words.specs.lock.Out.{is_neither, locks_with_slabs, locks_with_stripe, without_slabs, without_stripe}
use Rattle.mc_words.specs.hand.Views.{slabs_missed, slabs_taken, stripe_missed, stripe_taken}
use Rattle.mc_words.specs.lock.Lent.{BeginsWithSeen}
use Rattle.mc_words.specs.lock.Wait.{MissesSlabs, MissesStripe, WaitsForSlabs, WaitsForStripe}
use Rattle.mc_words.proofs.Locks.Unlocked.{unlocked_from}

-- whatever misses and takes leave stays
module _ {X : Type 0} (part : View → X) (stripe : ℕ) (missed : (word : ℕ) (v : View) → part (stripe_missed stripe word v) ≡ part v) (took : (value : ReadyStripe) (v : View) → part (stripe_taken stripe value v) ≡ part v) where
  misses_keep : (words : List ℕ) (before now : View) → MissesStripe stripe words before now → part now ≡ part before
  misses_keep [] before now is = ap part is
  misses_keep (word ∷ words) before now (busy, happens, rest) = misses_keep words (stripe_missed stripe word before) now rest ∙ missed word before

  pub waits_keep : (before : View) (value : ReadyStripe) (now : View) → WaitsForStripe stripe before value now → part now ≡ part before
  waits_keep before value now waits = ap part waits.is ∙ (took value waits.before ∙ misses_keep waits.words before waits.before waits.misses)

-- a stripe's lock that came and went
pub locks_back : (hand : Hand) (stripe : ℕ) → is_unlocked (view hand) ≡ true → without_stripe (locks_with_stripe stripe hand.locks) ≡ hand.locks
locks_back hand stripe unlocked = by hand.locks (unlocked_from hand.seat.me.0 hand.locks hand.noted.4 ∙ unlocked)
  where
    by : (locks : Locks) → is_neither locks ≡ true → without_stripe (locks_with_stripe stripe locks) ≡ locks
    by Neither none = refl
    by Slabs none = absurd (cc)
    by (Stripe other) none = absurd (cc)
    by (SlabsLast other) none = absurd (cc)
    by (StripeLast other) none = absurd (cc)

-- a try that took the lock waited for nobody
pub taken_at_once : (stripe : ℕ) (value : ReadyStripe) (before now : View) → Happens before [] (step.TakeStripe stripe) now → now ≡ stripe_taken stripe value before → BeginsWithSeen before stripe value → WaitsForStripe stripe before value now
taken_at_once stripe value before now happens is begins = record { words = []; before = before; misses = refl; taken = happens; is = is; begins = begins }

-- the same of the lock of the slabs
module _ {X : Type 0} (part : View → X) (missed : (word : ℕ) (v : View) → part (slabs_missed word v) ≡ part v) (took : (slabs : SlabState) (v : View) → part (slabs_taken slabs v) ≡ part v) where
  misses_slabs_keep : (words : List ℕ) (before now : View) → MissesSlabs words before now → part now ≡ part before
  misses_slabs_keep [] before now is = ap part is
  misses_slabs_keep (word ∷ words) before now (busy, happens, rest) = misses_slabs_keep words (slabs_missed word before) now rest ∙ missed word before

  pub waits_slabs_keep : (before : View) (slabs : SlabState) (now : View) → WaitsForSlabs before slabs now → part now ≡ part before
  waits_slabs_keep before slabs now waits = ap part waits.is ∙ (took slabs waits.before ∙ misses_slabs_keep waits.words before waits.before waits.misses)

-- a hand whose locks are as one's that had none
pub still_unlocked : (before now : Hand) → is_unlocked (view before) ≡ true → now.locks ≡ before.locks → is_unlocked (view now) ≡ true
still_unlocked before now unlocked same =
    sym (unlocked_from now.seat.me.0 now.locks now.noted.4) ∙ (ap is_neither same ∙ (unlocked_from before.seat.me.0 before.locks before.noted.4 ∙ unlocked))

-- the lock of the slabs that came and went
pub slabs_back : (hand : Hand) → is_unlocked (view hand) ≡ true → without_slabs (locks_with_slabs hand.locks) ≡ hand.locks
slabs_back hand unlocked = by hand.locks (unlocked_from hand.seat.me.0 hand.locks hand.noted.4 ∙ unlocked)
  where
    by : (locks : Locks) → is_neither locks ≡ true → without_slabs (locks_with_slabs locks) ≡ locks
    by Neither none = refl
    by Slabs none = absurd (cc)
    by (Stripe other) none = absurd (cc)
    by (SlabsLast other) none = absurd (cc)
    by (StripeLast other) none = absurd (cc)
