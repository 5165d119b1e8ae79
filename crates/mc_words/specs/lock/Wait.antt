-- Waiting for a lock: some looks at its word, and then a try that takes it.
use Rattle.std.specs.Prelude.{◌≡◌, ◌≢◌, ◌<◌, ℕ, List, [], ◌∷◌, length, All, ⊤}
use Rattle.mc_pages.specs.SlabState.{SlabState}
use Rattle.mc_stripe.specs.StripeState.{ReadyStripe}
use Rattle.mc_core.specs.declared.event.Step.TheVariants as step
use Rattle.mc_words.specs.hand.View.{View}
use Rattle.mc_words.specs.rule.Happens.{Happens}
use Rattle.mc_words.specs.lock.Lent.{BeginsWithSeen}
use Rattle.mc_words.specs.hand.Views.{slabs_missed, slabs_taken, stripe_missed, stripe_taken}

-- where a read found the word 0, the next look is that of a try that missed, which found a word other than 0
abbrev pub IsTriedNext : ℕ → List ℕ → Type 0
IsTriedNext word [] = ⊤
IsTriedNext word (next ∷ words) = word ≡ 0 → next ≢ 0

-- the hand saw these words at the slabs lock, one after another: by tries that missed it, and by reads, which go on until one finds 0
abbrev pub MissesSlabs : List ℕ → View → View → Type 0
MissesSlabs [] view now = now ≡ view
MissesSlabs (word ∷ words) view now = IsTriedNext word words × Happens view [] step.MissSlabs (slabs_missed word view) × MissesSlabs words (slabs_missed word view) now

-- the hand waited for the slabs lock: after some looks at its word it was taken, with these pages and lists behind it
pub record WaitsForSlabs (view : View) (slabs : SlabState) (now : View) : Type 0 where
  pub words : List ℕ
  pub before : View
  pub misses : MissesSlabs words view before
  pub taken : Happens before [] step.TakeSlabs now
  pub is : now ≡ slabs_taken slabs before

-- the hand saw these words at a stripe's lock, one after another: by tries that missed it, and by reads, which go on until one finds 0
abbrev pub MissesStripe : ℕ → List ℕ → View → View → Type 0
MissesStripe stripe [] view now = now ≡ view
MissesStripe stripe (word ∷ words) view now =
    IsTriedNext word words × Happens view [] (step.MissStripe stripe) (stripe_missed stripe word view) × MissesStripe stripe words (stripe_missed stripe word view) now

-- the hand waited for a stripe's lock: after some looks at its word it was taken, with this value behind it
pub record WaitsForStripe (stripe : ℕ) (view : View) (value : ReadyStripe) (now : View) : Type 0 where
  pub words : List ℕ
  pub before : View
  pub misses : MissesStripe stripe words view before
  pub taken : Happens before [] (step.TakeStripe stripe) now
  pub is : now ≡ stripe_taken stripe value before
  pub begins : BeginsWithSeen view stripe value

-- the slabs lock was taken at one of this many tries
pub record TakesSlabsWithin (tries : ℕ) (view : View) (slabs : SlabState) (now : View) : Type 0 where
  pub waits : WaitsForSlabs view slabs now
  pub within_limit : length waits.words < tries

-- the hand tried for the slabs lock this many times, and its word was never 0
pub record MissesSlabsEachTime (tries : ℕ) (view now : View) : Type 0 where
  pub words : List ℕ
  pub count : length words ≡ tries
  pub busy : All (λ word. word ≢ 0) words
  pub misses : MissesSlabs words view now

-- the stripe's lock was taken at one of this many tries
pub record TakesStripeWithin (tries stripe : ℕ) (view : View) (value : ReadyStripe) (now : View) : Type 0 where
  pub waits : WaitsForStripe stripe view value now
  pub within_limit : length waits.words < tries

-- the hand tried for the stripe's lock this many times, and its word was never 0
pub record MissesStripeEachTime (tries stripe : ℕ) (view now : View) : Type 0 where
  pub words : List ℕ
  pub count : length words ≡ tries
  pub busy : All (λ word. word ≢ 0) words
  pub misses : MissesStripe stripe words view now
