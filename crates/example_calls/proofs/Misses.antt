-- The events of a hand that tries for a lock: each miss is one, and so is the take. And a stripe that it gave back.
use Rattle.std.proofs.Common.{◌≡◌, ℕ, ◌+◌, List, [], ◌∷◌, ◌++◌, Some, length, length-append, refl, ap, arith, eq-eqb}
use Rattle.mc_pages.specs.SlabState.{SlabState}
use Rattle.mc_stripe.specs.StripeState.{ReadyStripe}
use Rattle.mc_core.specs.declared.event.Step.TheVariants as step
use Rattle.mc_core.specs.past.Past.{end_hold, last_of}
use Rattle.mc_words.specs.hand.View.{OwnEvent, View, made}
use Rattle.mc_words.specs.hand.Observers.{last_given}
use Rattle.mc_words.specs.hand.Views.{slabs_missed, stripe_given, stripe_missed}
use Rattle.mc_words.specs.lock.Wait.{MissesSlabs, MissesStripe, WaitsForSlabs, WaitsForStripe}

pub one_more : (events : List OwnEvent) (event : OwnEvent) → length (events ++ event ∷ []) ≡ length events + 1
one_more events event = length-append events (event ∷ [])

-- at the lock of the slabs
pub misses_slabs : (words : List ℕ) (view now : View) → MissesSlabs words view now → length now.events ≡ length view.events + length words
misses_slabs [] view now same = let long : length now.events ≡ length view.events = ap (λ (v : View). length v.events) same in omega (arith, long)
misses_slabs (word ∷ words) view now (next, happens, rest) =
    let more : length now.events ≡ length (view.events ++ made [] step.MissSlabs ∷ []) + length words = misses_slabs words (slabs_missed word view) now rest in
    let one = one_more view.events (made [] step.MissSlabs) in
    omega (arith, more, one)

pub waits_slabs : (view : View) (slabs : SlabState) (now : View) (waits : WaitsForSlabs view slabs now) → length now.events ≡ length view.events + length waits.words + 1
waits_slabs view slabs now waits =
    let is : length now.events ≡ length (waits.before.events ++ made [] step.TakeSlabs ∷ []) = ap (λ (v : View). length v.events) waits.is in
    let one = one_more waits.before.events (made [] step.TakeSlabs) in
    let misses = misses_slabs waits.words view waits.before waits.misses in
    omega (arith, is, one, misses)

-- at that of a stripe
pub misses_stripe : (stripe : ℕ) (words : List ℕ) (view now : View) → MissesStripe stripe words view now → length now.events ≡ length view.events + length words
misses_stripe stripe [] view now same = let long : length now.events ≡ length view.events = ap (λ (v : View). length v.events) same in omega (arith, long)
misses_stripe stripe (word ∷ words) view now (next, happens, rest) =
    let more : length now.events ≡ length (view.events ++ made [] (step.MissStripe stripe) ∷ []) + length words = misses_stripe stripe words (stripe_missed stripe word view) now rest in
    let one = one_more view.events (made [] (step.MissStripe stripe)) in
    omega (arith, more, one)

pub waits_stripe : (stripe : ℕ) (view : View) (value : ReadyStripe) (now : View) (waits : WaitsForStripe stripe view value now) → length now.events ≡ length view.events + length waits.words + 1
waits_stripe stripe view value now waits =
    let is : length now.events ≡ length (waits.before.events ++ made [] (step.TakeStripe stripe) ∷ []) = ap (λ (v : View). length v.events) waits.is in
    let one = one_more waits.before.events (made [] (step.TakeStripe stripe)) in
    let misses = misses_stripe stripe waits.words view waits.before waits.misses in
    omega (arith, is, one, misses)

-- what it gave back of a stripe is what it last gave back of it
pub given_last : (number stripe : ℕ) (value : ReadyStripe) (taken : View) → number ≡ stripe → last_given (stripe_given number value taken) stripe ≡ Some value
given_last number stripe value taken same =
    let yes = eq-eqb number stripe same in
    let left : (last_of stripe (end_hold number value taken.row.knows.hold).stripes).left ≡ Some value = rw yes refl in
    left
