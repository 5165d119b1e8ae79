-- Calls that try for the slabs lock n times: what a hold of it leaves of the hand where it changes pages or lists alone, and what misses leave.
use Rattle.std.proofs.Common.{◌≡◌, ℕ, Option, Result, Ok, Err, refl, ap, ◌∙◌}
use Rattle.mc_pages.specs.declared.moves.Reassign.{Reassign}
use Rattle.mc_pages.specs.SlabState.{SlabState}
use Rattle.std.specs.List.{range_with_len}
use Rattle.mc_core.specs.declared.event.StripeChange.{StripeChange}
use Rattle.mc_words.specs.declared.arena.Arena.{Arena}
use Rattle.mc_words.specs.declared.hand.Hand.{Hand}
use Rattle.mc_words.specs.hand.Arenas.{IsHandOf, view}
use Rattle.mc_words.specs.hand.Ready.{IsReady, StaysReady}
use Rattle.mc_words.specs.hand.View.{View}
use Rattle.mc_words.specs.hand.Views.{slabs_given}
use Rattle.mc_words.specs.item.Refs.{KeepsHoldings}
use Rattle.mc_words.specs.lock.Out.{locks_with_slabs, without_slabs}
use Rattle.mc_words.specs.lock.Doing.{HoldsStripe}
use Rattle.mc_words.specs.lock.Wait.{MissesSlabsEachTime, MissesStripeEachTime, TakesSlabsWithin}
use Rattle.mc_words.proofs.Locks.Waited as waited
use Rattle.mc_words.specs.page.Moves.{Reassigns}
use Rattle.mc_mover.specs.declared.recording_within.TrimWithin.{TrimWithin}
use Rattle.mc_mover.specs.declared.recording_within.TrimWithin.TheVariants.{Refused, Held}
use Rattle.mc_mover.specs.Recording.{Leaves}
use Rattle.mc_mover.specs.RecordingWithin.{IfRefused, StopsAtStripe}
use Rattle.mc_mover.specs.Within.{HoldsSlabsWithin}
use Rattle.mc_mover.proofs.HoldsSlabs.{lock_back, misses_keep, wait_keeps}
use Rattle.mc_mover.proofs.Recorded.{kept_of, each_keeps, hand_kept, hold_keeps, holdings_kept, leaves_quiet, refs_kept}

-- each try missed
pub missed_keeps : (tries : ℕ) (view now : View) → MissesSlabsEachTime tries view now → kept_of now ≡ kept_of view
missed_keeps tries view now missed = misses_keep kept_of (λ word v. refl) (λ slabs v. refl) missed.words view now missed.misses

-- of one hold, at one of n tries
module _ (tries : ℕ) (view taken last now : View) (found left : SlabState) (within : TakesSlabsWithin tries view found taken) (given : now ≡ slabs_given left last) where
  -- what leaves the hand's own part of the view under the lock leaves it
  pub within_keeps : kept_of last ≡ kept_of taken → kept_of now ≡ kept_of view
  within_keeps same = ap kept_of given ∙ (same ∙ wait_keeps kept_of (λ word v. refl) (λ slabs v. refl) view found taken within.waits)

  -- the lock was taken at one of so many tries
  pub within_tries : HoldsSlabsWithin tries view now
  within_tries = record {
    holds = record { found = found; taken = taken; waits = within.waits; left = left; last = last; does = tt; given = given };
    within_limit = within.within_limit;
  }

-- what is held, and each reference
pub holdings_so : (before now : Hand) → kept_of (view now) ≡ kept_of (view before) → KeepsHoldings (view before) (view now)
holdings_so before now same = record { same = holdings_kept before now same; references = refs_kept before now same }

-- a ready hand that had the lock meanwhile is ready
pub hand_so : (arena : Arena) (before now : Hand) → kept_of (view now) ≡ kept_of (view before) → IsHandOf arena now → now.locks ≡ without_slabs (locks_with_slabs before.locks) → IsReady (view before) → StaysReady arena before now
hand_so arena before now same is locks ready = hand_kept before now same arena is (locks ∙ lock_back before ready.unlocked) ready

-- each try for a stripe's lock missed
pub stripe_missed_keeps : (tries stripe : ℕ) (view now : View) → MissesStripeEachTime tries stripe view now → kept_of now ≡ kept_of view
stripe_missed_keeps tries stripe view now missed = waited.misses_keep kept_of stripe (λ word v. refl) missed.words view now missed.misses

-- so it did behind stripes that changed
pub stopped_keeps : (tries : ℕ) (how : StripeChange) (number count : ℕ) (view now : View) → StopsAtStripe tries how number count view now → kept_of now ≡ kept_of view
stopped_keeps tries how number count view now stops = stripe_missed_keeps tries stops.stripe stops.before now stops.misses ∙ each_keeps how number (range_with_len 0 stops.stripe) view stops.before stops.changes

-- what follows of a refusal
pub if_refused : (error : TrimWithin) (A B : Type 0) → (A → B) → IfRefused error A → IfRefused error B
if_refused (Refused refusal) A B next a = next a
if_refused Held A B next a = tt

-- a lock was held at each try
abbrev pub SaysHeld : Result (Unit {0}) TrimWithin → Type 0
SaysHeld result = result ≡ Err Held

-- a stripe that wasn't trimmed
pub refused_keeps : (tries : ℕ) (error : TrimWithin) (stripe : ℕ) (view now : View) → (SaysHeld (Err error) → MissesStripeEachTime tries stripe view now) → IfRefused error (HoldsStripe stripe Leaves view now) → kept_of now ≡ kept_of view
refused_keeps tries (Refused refusal) stripe view now missed leaves = hold_keeps Leaves leaves_quiet stripe view now leaves
refused_keeps tries Held stripe view now missed leaves = stripe_missed_keeps tries stripe view now (missed refl)

-- no page is half cut, nor after a move was asked for
pub begun_uncut : (number : ℕ) (src : Option ℕ) (dst : ℕ) (view now : View) (slabs left : SlabState) (result : Result (Unit {0}) Reassign) → Reassigns number src dst result view slabs now left → left.uncut ≡ slabs.uncut
begun_uncut number src dst view now slabs left (Ok done) begun = ap (λ (s : SlabState). s.uncut) begun.left_is
begun_uncut number src dst view now slabs left (Err refusal) refused = ap (λ (s : SlabState). s.uncut) refused.2
