use Rattle.std.proofs.Common.{◌≡◌, ◌≢◌, ℕ, List, [], ◌∷◌, ap, refl, subst, ◌∙◌, slice_get}
use Rattle.mc_stripe.specs.StripeState.{ReadyStripe}
use Rattle.mc_core.specs.declared.event.Step.TheVariants.{MissStripe}
use Rattle.mc_words.specs.hand.Idle.{is_unlocked}
use Rattle.mc_words.specs.hand.View.{View}
use Rattle.mc_words.specs.hand.Views.{stripe_missed}
use Rattle.mc_words.specs.lock.Wait.{IsTriedNext, MissesStripe, WaitsForStripe}
use Rattle.mc_words.specs.rule.Happens.{Happens}
use Rattle.mc_words.proofs.Locks.Unlocked.{unlocked_from, no_stripe_unlocked, no_stripes_there}
use Rattle.mc_words.proofs.arena.Arena.lock_stripe.Goals as goal

-- behind a word that isn't 0 any look may come
tried_next : (word : ℕ) (words : List ℕ) → word ≢ 0 → IsTriedNext word words
tried_next word [] not = tt
tried_next word (next ∷ words) not = λ zero_is. absurd (not zero_is)

-- a wait behind a try that missed
waits_behind : (stripe word : ℕ) (view before now : View) (value : ReadyStripe) → word ≢ 0 → Happens view [] (MissStripe stripe) before → before ≡ stripe_missed stripe word view
    → WaitsForStripe stripe before value now → WaitsForStripe stripe view value now
waits_behind stripe word view before now value not happens is waits = record {
  words = word ∷ waits.words;
  before = waits.before;
  misses = (tried_next word waits.words not, subst (Happens view [] (MissStripe stripe)) is happens, subst (λ (v : View). MissesStripe stripe waits.words v waits.before) is waits.misses);
  taken = waits.taken;
  is = waits.is;
  begins = λ seen at. waits.begins seen (ap (λ (v : View). slice_get v.row.knows.seen stripe) is ∙ at);
}

pub try_stripe-requires : goal.try_stripe-requires
try_stripe-requires g c =
    let a = c.args.hand.now in
    record { arena = c.requires.arena; in_range = c.requires.in_range; one = no_stripes_there a.seat.me.0 a.locks a.noted.4 (no_stripe_unlocked a.locks (unlocked_from a.seat.me.0 a.locks a.noted.4 ∙ c.requires.unlocked)) }

pub wait_for_stripe-requires : goal.wait_for_stripe-requires
wait_for_stripe-requires g c =
    let (word, not, is) = c.in-Err.ensures.held in
    record { arena = c.in-Err.ensures.arena; in_range = c.requires.in_range; unlocked = ap is_unlocked is ∙ c.requires.unlocked }

pub returns-in-Ok-clause-waits : goal.returns-in-Ok-clause-waits
returns-in-Ok-clause-waits g c =
    record { words = []; before = c.args.hand.now.seat.me.0; misses = refl; taken = c.in-Ok.ensures.taken; is = c.in-Ok.ensures.lent; begins = c.in-Ok.ensures.seen }

pub returns-in-Err-clause-waits : goal.returns-in-Err-clause-waits
returns-in-Err-clause-waits g c =
    let (word, not, is) = c.in-Err.ensures.held in
    waits_behind c.args.stripe word c.args.hand.now.seat.me.0 c.try_stripe.new.hand.seat.me.0 _ _ not c.in-Err.ensures.missed is c.wait_for_stripe.ensures.waits
