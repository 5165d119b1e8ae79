-- What a hand keeps while it waits for a stripe's lock.
use Rattle.std.proofs.Common.{◌≡◌, ℕ, List, [], ◌∷◌, ap, ◌∙◌}
use Rattle.mc_stripe.specs.StripeState.{ReadyStripe}
use Rattle.mc_words.specs.hand.View.{View}
use Rattle.mc_words.specs.hand.Views.{stripe_missed, stripe_taken}
use Rattle.mc_words.specs.lock.Wait.{MissesStripe, WaitsForStripe}

-- whatever misses and takes leave stays
module _ {X : Type 0} (part : View → X) (stripe : ℕ) (missed : (word : ℕ) (v : View) → part (stripe_missed stripe word v) ≡ part v) where
  pub misses_keep : (words : List ℕ) (before now : View) → MissesStripe stripe words before now → part now ≡ part before
  misses_keep [] before now is = ap part is
  misses_keep (word ∷ words) before now (busy, happens, rest) = misses_keep words (stripe_missed stripe word before) now rest ∙ missed word before

  pub waits_keep : (took : (value : ReadyStripe) (v : View) → part (stripe_taken stripe value v) ≡ part v) (before : View) (value : ReadyStripe) (now : View) → WaitsForStripe stripe before value now → part now ≡ part before
  waits_keep took before value now waits = ap part waits.is ∙ (took value waits.before ∙ misses_keep waits.words before waits.before waits.misses)
