-- Stripes that are trimmed, or forget their calls: what that leaves of a hand's view, and one stripe more.
use Rattle.std.proofs.Common.{◌≡◌, ℕ, ◌+◌, true, List, [], ◌∷◌, ◌++◌, refl, sym, ap, ap₂, ◌∙◌, subst, arith}
use Rattle.std.specs.List.{range_with_len}
use Rattle.std.proofs.lemmas.List.{map-id}
use Rattle.std.proofs.lemmas.List.FromFn.{map-range_with_len_more}
use Rattle.mc_stripe.specs.StripeState.{ReadyStripe}
use Rattle.mc_core.specs.declared.event.StripeChange.{StripeChange}
use Rattle.mc_core.specs.declared.event.StripeChange.TheVariants.{Reserve, ReserveCall, Trim, Forget}
use Rattle.mc_core.specs.declared.holding.Holding.{Holding}
use Rattle.mc_core.specs.declared.ids.Ids.{Ids}
use Rattle.mc_core.specs.past.Past.{KnownItem, Own, StoredItem}
use Rattle.mc_core.specs.run.Silent.{stripe_after}
use Rattle.mc_words.specs.declared.arena.Arena.{Arena}
use Rattle.mc_words.specs.declared.hand.Hand.{Hand}
use Rattle.mc_words.specs.declared.lock.locks.Locks.{Locks}
use Rattle.mc_words.specs.declared.lock.locks.Locks.TheVariants.{Neither, Slabs, Stripe, SlabsLast, StripeLast}
use Rattle.mc_words.specs.hand.View.{View}
use Rattle.mc_words.specs.hand.Arenas.{IsHandOf, view}
use Rattle.mc_words.specs.lock.Doing.{Doing, HoldsSlabs, HoldsStripe}
use Rattle.mc_words.specs.hand.Idle.{is_unlocked}
use Rattle.mc_words.specs.hand.Ready.{IsReady, StaysReady}
use Rattle.mc_words.specs.lock.Out.{is_neither, locks_with_stripe, without_stripe}
use Rattle.mc_words.specs.hand.Views.{stripe_changed, stripe_given}
use Rattle.mc_words.specs.lock.Wait.{WaitsForStripe}
use Rattle.mc_words.specs.item.Refs.{KeepsRefs}
use Rattle.mc_words.proofs.Hands.HandNumbers.{number_stays}
use Rattle.mc_words.proofs.Locks.Unlocked.{unlocked_from}
use Rattle.mc_words.proofs.Locks.Waited.{waits_keep}
use Rattle.mc_mover.proofs.HoldsSlabs.{wait_keeps}
use Rattle.mc_mover.proofs.Chains.{hand_still, refs_stay}
use Rattle.mc_mover.specs.Recording.{Changes, ChangesEach, FindsStripeFull, Leaves, TrimsLedger}

-- what is held, known and said, the hand's own calls, and who it is
abbrev pub Kept : Type 0
Kept = List Holding × List KnownItem × List StoredItem × List Own × Ids

abbrev pub kept_of : View → Kept
kept_of view = (view.row.holdings, view.row.knows.known, view.row.knows.stored, view.row.knows.mine, view.row.ids)

-- what is done on a stripe leaves these
abbrev pub IsQuiet : Doing → Type 0
IsQuiet Does = (found : ReadyStripe) (taken : View) (left : ReadyStripe) (last : View) → Does found taken left last → kept_of last ≡ kept_of taken

pub changes_quiet : (how : StripeChange) (number stripe : ℕ) → IsQuiet (Changes how number stripe)
changes_quiet how number stripe found taken left last does = ap kept_of does.1

pub leaves_quiet : IsQuiet Leaves
leaves_quiet found taken left last does = ap kept_of does.1

pub full_quiet : IsQuiet FindsStripeFull
full_quiet found taken left last does = ap kept_of does.1.1

-- and so does the hold of its lock
pub hold_keeps : (Does : Doing) → IsQuiet Does → (stripe : ℕ) (view now : View) → HoldsStripe stripe Does view now → kept_of now ≡ kept_of view
hold_keeps Does quiet stripe view now holds =
    ap kept_of holds.given ∙ (quiet holds.found holds.taken holds.left holds.last holds.does
    ∙ waits_keep kept_of stripe (λ word v. refl) (λ value v. refl) view holds.found holds.taken holds.waits)

pub each_keeps : (how : StripeChange) (number : ℕ) (stripes : List ℕ) (view now : View) → ChangesEach how number stripes view now → kept_of now ≡ kept_of view
each_keeps how number [] view now is = ap kept_of is
each_keeps how number (stripe ∷ stripes) view now (next, one, rest) = each_keeps how number stripes next now rest ∙ hold_keeps (Changes how number stripe) (changes_quiet how number stripe) stripe view next one

-- so does that of the slabs, in which the ledger is trimmed
pub ledger_keeps : (number : ℕ) (view now : View) → HoldsSlabs (TrimsLedger number) view now → kept_of now ≡ kept_of view
ledger_keeps number view now holds =
    ap kept_of holds.given ∙ (ap kept_of holds.does.0.1
    ∙ wait_keeps kept_of (λ word v. refl) (λ slabs v. refl) view holds.found holds.taken holds.waits)

-- one stripe more
pub each_more : (how : StripeChange) (number stripe : ℕ) (stripes : List ℕ) (view before now : View) → ChangesEach how number stripes view before → HoldsStripe stripe (Changes how number stripe) before now → ChangesEach how number (stripes ++ stripe ∷ []) view now
each_more how number stripe [] view before now is one = (now, subst_view is one, refl)
  where
    subst_view : before ≡ view → HoldsStripe stripe (Changes how number stripe) before now → HoldsStripe stripe (Changes how number stripe) view now
    subst_view same holds = subst (λ (v : View). HoldsStripe stripe (Changes how number stripe) v now) same holds
each_more how number stripe (first ∷ stripes) view before now (next, did, rest) one = (next, did, each_more how number stripe stripes next before now rest one)

-- the next number
pub numbers_more : (place : ℕ) → range_with_len 0 (place + 1) ≡ range_with_len 0 place ++ place ∷ []
numbers_more place =
    sym (map-id (range_with_len 0 (place + 1))) ∙ map-range_with_len_more (λ (i : ℕ). i) 0 place place (omega arith) ∙ ap (λ numbers. numbers ++ place ∷ []) (map-id (range_with_len 0 place))

-- a stripe's lock that came and went
pub stripe_back : (hand : Hand) (stripe : ℕ) → is_unlocked (view hand) ≡ true → without_stripe (locks_with_stripe stripe hand.locks) ≡ hand.locks
stripe_back hand stripe unlocked = by hand.locks (unlocked_from hand.seat.me.0 hand.locks hand.noted.4 ∙ unlocked)
  where
    by : (locks : Locks) → is_neither locks ≡ true → without_stripe (locks_with_stripe stripe locks) ≡ locks
    by Neither none = refl
    by Slabs none = absurd (cc)
    by (Stripe other) none = absurd (cc)
    by (SlabsLast other) none = absurd (cc)
    by (StripeLast other) none = absurd (cc)

-- what such a change leaves aside
pub same_aside : (how : StripeChange) (value : ReadyStripe) → (stripe_after how value).state.aside ≡ value.state.aside
same_aside Reserve value = refl
same_aside ReserveCall value = refl
same_aside Trim value = refl
same_aside Forget value = refl

-- the number of a hand that waited for a stripe's lock
pub waited_number : (before now : Hand) (stripe : ℕ) (found : ReadyStripe) → WaitsForStripe stripe (view before) found (view now) → now.number ≡ before.number
waited_number before now stripe found waits = number_stays before now (waits_keep (λ (v : View). v.row.ids) stripe (λ word v. refl) (λ value v. refl) (view before) found (view now) waits)

-- a hold of a stripe's lock in which it changed so, from the parts of a call
pub held_for : (how : StripeChange) (number number' stripe stripe' stripe'' : ℕ) (found found' left : ReadyStripe) (view taken last now : View) → WaitsForStripe stripe view found taken → number' ≡ number → stripe' ≡ stripe → stripe'' ≡ stripe
    → left ≡ stripe_after how found → last ≡ stripe_changed how stripe' found (number' + 1) taken → now ≡ stripe_given stripe'' left last → HoldsStripe stripe (Changes how number stripe) view now
held_for how number number' stripe stripe' stripe'' found found' left view taken last now waits numbers stripes stripes' lefts lasts given = record {
  found = found;
  taken = taken;
  waits = waits;
  left = left;
  last = last;
  does = (lefts, lasts ∙ ap₂ (λ (s n : ℕ). stripe_changed how s found (n + 1) taken) stripes numbers);
  given = given ∙ ap (λ (s : ℕ). stripe_given s left last) stripes';
}

-- what a ready hand keeps over such a hold: what it holds, knows, said and told, and who it is
module _ (before now : Hand) (same : kept_of (view now) ≡ kept_of (view before)) where
  pub holdings_kept : (view now).row.holdings ≡ (view before).row.holdings
  holdings_kept = ap (λ (k : Kept). k.0) same

  pub refs_kept : KeepsRefs (view before) (view now)
  refs_kept = refs_stay (view before) (view now) holdings_kept (ap (λ (k : Kept). k.1) same)

  pub said_kept : (view now).row.knows.stored ≡ (view before).row.knows.stored
  said_kept = ap (λ (k : Kept). k.2) same

  pub mine_kept : (view now).row.knows.mine ≡ (view before).row.knows.mine
  mine_kept = ap (λ (k : Kept). k.3) same

  pub hand_kept : (arena : Arena) → IsHandOf arena now → now.locks ≡ before.locks → IsReady (view before) → StaysReady arena before now
  hand_kept arena is locks ready = hand_still arena before now is locks holdings_kept (ap (λ (k : Kept). k.4) same) ready
