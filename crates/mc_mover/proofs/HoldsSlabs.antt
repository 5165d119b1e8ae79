-- One hold of the lock of the slabs: what the hand keeps while it waits for it, and what was done, from the parts of a call.
use Rattle.std.proofs.Common.{◌≡◌, ℕ, true, List, [], ◌∷◌, Some, refl, sym, ap, ◌∙◌}
use Rattle.mc_pages.specs.SlabState.{SlabState}
use Rattle.mc_core.specs.declared.ids.Ids.{Ids}
use Rattle.mc_words.specs.declared.hand.Hand.{Hand}
use Rattle.mc_words.specs.declared.lock.locks.Locks.{Locks}
use Rattle.mc_words.specs.declared.lock.locks.Locks.TheVariants.{Neither, Slabs, Stripe, SlabsLast, StripeLast}
use Rattle.mc_words.specs.hand.View.{View}
use Rattle.mc_words.specs.hand.Arenas.{view}
use Rattle.mc_words.specs.lock.Doing.{HoldsSlabs, SlabsDoing}
use Rattle.mc_words.specs.hand.Idle.{is_unlocked}
use Rattle.mc_words.specs.lock.Out.{is_neither, locks_with_slabs, without_slabs}
use Rattle.mc_words.specs.hand.Views.{slabs_given, slabs_missed, slabs_taken}
use Rattle.mc_words.specs.lock.Wait.{MissesSlabs, WaitsForSlabs}
use Rattle.mc_words.proofs.Locks.Unlocked.{unlocked_from}

-- whatever misses and the take leave stays
module _ {X : Type 0} (part : View → X) (missed : (word : ℕ) (v : View) → part (slabs_missed word v) ≡ part v) (took : (slabs : SlabState) (v : View) → part (slabs_taken slabs v) ≡ part v) where
  pub misses_keep : (words : List ℕ) (before now : View) → MissesSlabs words before now → part now ≡ part before
  misses_keep [] before now is = ap part is
  misses_keep (word ∷ words) before now (busy, happens, rest) = misses_keep words (slabs_missed word before) now rest ∙ missed word before

  pub wait_keeps : (before : View) (slabs : SlabState) (now : View) → WaitsForSlabs before slabs now → part now ≡ part before
  wait_keeps before slabs now waits = ap part waits.is ∙ (took slabs waits.before ∙ misses_keep waits.words before waits.before waits.misses)

-- what the hand holds
pub wait_holdings : (before : View) (slabs : SlabState) (now : View) → WaitsForSlabs before slabs now → now.row.holdings ≡ before.row.holdings
wait_holdings before slabs now waits = wait_keeps (λ (v : View). v.row.holdings) (λ word v. refl) (λ slabs v. refl) before slabs now waits

-- its number
pub wait_number : (before now : Hand) (slabs : SlabState) → WaitsForSlabs (view before) slabs (view now) → now.number ≡ before.number
wait_number before now slabs waits =
    one (sym now.noted.0 ∙ (ap (λ (i : Ids). i.number) (wait_keeps (λ (v : View). v.row.ids) (λ word v. refl) (λ slabs v. refl) (view before) slabs (view now) waits) ∙ before.noted.0))
  where
    one : {a b : ℕ} → Some a ≡ Some b → a ≡ b
    one e = cc

-- a lock that came and went
pub lock_back : (hand : Hand) → is_unlocked (view hand) ≡ true → without_slabs (locks_with_slabs hand.locks) ≡ hand.locks
lock_back hand unlocked = by hand.locks (unlocked_from hand.seat.me.0 hand.locks hand.noted.4 ∙ unlocked)
  where
    by : (locks : Locks) → is_neither locks ≡ true → without_slabs (locks_with_slabs locks) ≡ locks
    by Neither none = refl
    by Slabs none = absurd (cc)
    by (Stripe other) none = absurd (cc)
    by (SlabsLast other) none = absurd (cc)
    by (StripeLast other) none = absurd (cc)

-- what was done under the lock
pub held_for : (Does : SlabsDoing) (view taken last now : View) (found left : SlabState) → WaitsForSlabs view found taken → Does taken found last left → now ≡ slabs_given left last → HoldsSlabs Does view now
held_for Does view taken last now found left waits does given = record { found = found; taken = taken; waits = waits; left = left; last = last; does = does; given = given }

-- what the hand holds is as before, where what was done leaves it
pub held_holdings : (view taken last now : View) (found left : SlabState) → WaitsForSlabs view found taken → last.row.holdings ≡ taken.row.holdings → now ≡ slabs_given left last → now.row.holdings ≡ view.row.holdings
held_holdings view taken last now found left waits same given = ap (λ (v : View). v.row.holdings) given ∙ (same ∙ wait_holdings view found taken waits)
