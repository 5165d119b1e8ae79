-- Hands that are kept in a list, of which the first leaves; hands that looked at a header, or behind a lock.
use Rattle.std.proofs.Common.{◌≡◌, ◌≤◌, ◌∙◌, ℕ, ◌+◌, true, List, [], ◌∷◌, length, refl, ap, sym, subst}
use Rattle.mc_pages.specs.declared.ids.ChunkId.{ChunkId}
use Rattle.mc_pages.specs.SlabState.{SlabState}
use Rattle.mc_stripe.specs.StripeState.{ReadyStripe}
use Rattle.mc_core.specs.declared.head.Head.{Head}
use Rattle.mc_core.specs.declared.holding.Holding.{Holding}
use Rattle.mc_core.specs.model.Holdings.{has_fresh}
use Rattle.mc_words.specs.declared.arena.Arena.{Arena}
use Rattle.mc_words.specs.declared.hand.Hand.{Hand}
use Rattle.mc_words.specs.declared.lock.locks.Locks.{Locks}
use Rattle.mc_words.specs.declared.lock.locks.Locks.TheVariants.{Neither, Slabs, Stripe, SlabsLast, StripeLast}
use Rattle.mc_words.specs.hand.Arenas.{view}
use Rattle.mc_words.specs.hand.View.{View}
use Rattle.mc_words.specs.hand.Views.{head_seen, slabs_given, slabs_taken, stripe_given, stripe_taken}
use Rattle.mc_words.specs.hand.Hands.{AreHandsFrom, AreNewHands}
use Rattle.mc_words.specs.lock.Out.{is_neither, locks_with_slabs, locks_with_stripe, without_slabs, without_stripe}
use Rattle.mc_words.specs.hand.Ready.{IsReady}
use Rattle.mc_words.proofs.Locks.Unlocked.{unlocked_from}
use Rattle.testlib_hands.specs.Hands.{AreEmptyHandsOf}

hands_from : (arena : Arena) (number : ℕ) (hands : List Hand) → AreHandsFrom arena number hands → AreEmptyHandsOf arena hands
hands_from arena number [] are = record {}
hands_from arena number (hand ∷ hands) are = (((are.0.of_arena, are.0.ready), ap (λ (v : View). v.row.holdings) are.0.new), hands_from arena (1 + number) hands are.1)

pub all_hands : (arena : Arena) (hands : List Hand) → AreNewHands arena hands → AreEmptyHandsOf arena hands
all_hands arena hands are = hands_from arena 0 hands are.1

-- a hand that saw a header holds what it held, and has the same locks
pub ready_behind_head : (view now : View) (chunk : ChunkId) (head : Head) → now ≡ head_seen chunk head view → IsReady view → IsReady now
ready_behind_head view now chunk head seen ready = subst IsReady (sym seen) (record { unlocked = ready.unlocked; unfilled = ready.unfilled; within_limit = ready.within_limit })

-- a hand with the locks and the holdings of a ready one is ready
ready_still : (before now : Hand) → now.locks ≡ before.locks → (view now).row.holdings ≡ (view before).row.holdings → IsReady (view before) → IsReady (view now)
ready_still before now locks holdings ready = record {
  unlocked = sym (unlocked_from now.seat.me.0 now.locks now.noted.4) ∙ (ap is_neither locks ∙ (unlocked_from before.seat.me.0 before.locks before.noted.4 ∙ ready.unlocked));
  unfilled = ap has_fresh holdings ∙ ready.unfilled;
  within_limit = subst (λ (hs : List Holding). length hs ≤ 255) (sym holdings) ready.within_limit;
}

-- so is one that took the lock of the slabs, and gave it back
pub ready_behind_slabs : (hand taken last : Hand) (slabs left : SlabState) → taken.locks ≡ locks_with_slabs hand.locks → view taken ≡ slabs_taken slabs (view hand) → last.locks ≡ without_slabs taken.locks → view last ≡ slabs_given left (view taken) → IsReady (view hand) → IsReady (view last)
ready_behind_slabs hand taken last slabs left took lent gave given ready =
    ready_still hand last (gave ∙ (ap without_slabs took ∙ by hand.locks (unlocked_from hand.seat.me.0 hand.locks hand.noted.4 ∙ ready.unlocked)))
    (ap (λ (v : View). v.row.holdings) given ∙ ap (λ (v : View). v.row.holdings) lent) ready
  where
    by : (locks : Locks) → is_neither locks ≡ true → without_slabs (locks_with_slabs locks) ≡ locks
    by Neither none = refl
    by Slabs none = absurd (cc)
    by (Stripe other) none = absurd (cc)
    by (SlabsLast other) none = absurd (cc)
    by (StripeLast other) none = absurd (cc)

-- and one that took a stripe's
pub ready_behind_stripe : (hand taken last : Hand) (stripe : ℕ) (value left : ReadyStripe) → taken.locks ≡ locks_with_stripe stripe hand.locks → view taken ≡ stripe_taken stripe value (view hand) → last.locks ≡ without_stripe taken.locks → view last ≡ stripe_given stripe left (view taken) → IsReady (view hand) → IsReady (view last)
ready_behind_stripe hand taken last stripe value left took lent gave given ready =
    ready_still hand last (gave ∙ (ap without_stripe took ∙ by hand.locks (unlocked_from hand.seat.me.0 hand.locks hand.noted.4 ∙ ready.unlocked)))
    (ap (λ (v : View). v.row.holdings) given ∙ ap (λ (v : View). v.row.holdings) lent) ready
  where
    by : (locks : Locks) → is_neither locks ≡ true → without_stripe (locks_with_stripe stripe locks) ≡ locks
    by Neither none = refl
    by Slabs none = absurd (cc)
    by (Stripe other) none = absurd (cc)
    by (SlabsLast other) none = absurd (cc)
    by (StripeLast other) none = absurd (cc)
