-- Stripes whose calls are trimmed, or forgotten, each under its own lock, and a ledger that is trimmed.
use Rattle.std.specs.Prelude.{◌≡◌, ◌⊎◌, ◌<◌, ◌≤◌, ◌^◌, ◌+◌, ℕ, true, List, [], ◌∷◌, length, is_some, Some}
use Rattle.std.specs.List.{range_with_len}
use Rattle.mc_stripe.specs.StripeState.{ReadyStripe}
use Rattle.mc_pages.specs.Changes.{after_trim}
use Rattle.mc_core.specs.declared.event.Change.TheVariants.{TrimLedger}
use Rattle.mc_core.specs.declared.event.StripeChange.{StripeChange}
use Rattle.mc_core.specs.declared.event.StripeChange.TheVariants.{Trim}
use Rattle.mc_core.specs.run.Silent.{stripe_after}
use Rattle.mc_words.specs.declared.hand.Hand.{Hand}
use Rattle.mc_words.specs.hand.View.{View}
use Rattle.mc_words.specs.hand.Arenas.{view}
use Rattle.mc_words.specs.hand.Observers.{last_given, last_taken, hand_number}
use Rattle.mc_words.specs.lock.Doing.{Doing, HoldsSlabs, HoldsStripe, SlabsDoing}
use Rattle.mc_words.specs.page.Moves.{ChangesOnce}
use Rattle.mc_words.specs.hand.Views.{stripe_changed}

-- the hand of this number made this change of the stripe
abbrev pub Changes : StripeChange → ℕ → ℕ → Doing
Changes how number stripe found taken left last = (left ≡ stripe_after how found) × (last ≡ stripe_changed how stripe found (number + 1) taken)

-- nothing was done
abbrev pub Leaves : Doing
Leaves found taken left last = (left ≡ found) × (last ≡ taken)

-- the stripe records calls, and the place of its next one can't be counted
abbrev pub IsAtGreatestCount : ReadyStripe → Type 0
IsAtGreatestCount stripe = (is_some stripe.state.recorded_from ≡ true) × (2 ^ 64 ≤ length stripe.state.history)

-- the stripe was found recording calls and unable to count one more, and nothing was done
abbrev pub FindsStripeFull : Doing
FindsStripeFull found taken left last = IsAtGreatestCount found × Leaves found taken left last

-- the stripe was found not to be full, and nothing was done
abbrev pub FindsNotFull : Doing
FindsNotFull found taken left last = (¬ IsAtGreatestCount found) × Leaves found taken left last

-- each of these stripes got this change, one after another
abbrev pub ChangesEach : StripeChange → ℕ → List ℕ → View → View → Type 0
ChangesEach how number [] view now = now ≡ view
ChangesEach how number (stripe ∷ stripes) view now = (next : View) × HoldsStripe stripe (Changes how number stripe) view next × ChangesEach how number stripes next now

-- the stripe wasn't full as the hand last took it
abbrev pub TakesNotFull : View → ℕ → Type 0
TakesNotFull view stripe = (value : ReadyStripe) × (last_taken view stripe ≡ Some value) × (¬ IsAtGreatestCount value)

-- all stripes below one were trimmed, of which none was full, and this was done with that one
pub record StopsTrimming (number : ℕ) (Does : Doing) (view now : View) : Type 0 where
  pub stripe : ℕ
  pub before : View
  pub trims : ChangesEach Trim number (range_with_len 0 stripe) view before
  pub unfull : (below : ℕ) → below < stripe → TakesNotFull before below
  pub stops : HoldsStripe stripe Does before now

-- the hand last gave this stripe back as it had taken it, but with this change
abbrev pub GivesBackChanged : StripeChange → View → ℕ → Type 0
GivesBackChanged how view stripe = (value : ReadyStripe) × (last_taken view stripe ≡ Some value) × (last_given view stripe ≡ Some (stripe_after how value))

-- the hand last gave this stripe back as it had taken it
abbrev pub GivesBackSame : View → ℕ → Type 0
GivesBackSame view stripe = (value : ReadyStripe) × (last_taken view stripe ≡ Some value) × (last_given view stripe ≡ Some value)

-- the stripes below one were given back trimmed, and that one as it was
abbrev pub GivesBackUpToOne : View → Type 0
GivesBackUpToOne view = (stripe : ℕ) × ((below : ℕ) → below < stripe → GivesBackChanged Trim view below) × GivesBackSame view stripe

-- under the lock of the slabs: the entries of the ledger so far aren't recorded any more, and nothing else changed
abbrev pub TrimsLedger : ℕ → SlabsDoing
TrimsLedger number view slabs now left = ChangesOnce number TrimLedger view slabs now × (left ≡ after_trim slabs)

-- all stripes below this one were trimmed, of which none was full, and then the ledger
pub record TrimsAll (number count : ℕ) (view now : View) : Type 0 where
  pub between : View
  pub stripes : ChangesEach Trim number (range_with_len 0 count) view between
  pub unfull : (stripe : ℕ) → stripe < count → TakesNotFull between stripe
  pub ledger : HoldsSlabs (TrimsLedger number) between now

-- the hand trimmed all stripes and the ledger, or the first stripes, up to one that was refused
abbrev pub Trims : Hand → Hand → Type 0
Trims before now = TrimsAll (hand_number before) (view before).setup.config.stripes (view before) (view now) ⊎ StopsTrimming (hand_number before) Leaves (view before) (view now)
