use Rattle.std.proofs.Common.{◌≢◌, List, [], ◌∷◌, ◌++◌, length-append, ap, ◌∙◌, slice_get, arith}
use Rattle.std.proofs.lemmas.List.Elements.{All-append, All-cons}
use Rattle.mc_stripe.specs.declared.history.Call.{Call}
use Rattle.mc_words.specs.lock.Out.{locks_have_no_stripe}
use Rattle.mc_words.proofs.Locks.Unlocked.{unlocked_from, no_stripe_unlocked, no_stripes_there}
use Rattle.mc_words.proofs.Locks.Waits.{missed_stripe_again, misses_seen}
use Rattle.mc_words.proofs.arena.Arena.stripe_within.Goals as goal

pub try_stripe-requires : goal.try_stripe-requires
try_stripe-requires c =
    let a = c.args.hand.now in
    let b = c.loop-missed.hand in
    record { arena = c.loop-missed.invariant.0; in_range = c.requires.in_range; one = no_stripes_there b.seat.me.0 b.locks b.noted.4 (ap locks_have_no_stripe c.loop-missed.invariant.1 ∙ no_stripe_unlocked a.locks (unlocked_from a.seat.me.0 a.locks a.noted.4 ∙ c.requires.unlocked)) }

pub loop-missed-preserved : goal.loop-missed-preserved
loop-missed-preserved c =
    let so_far = c.loop-missed.invariant.2 in
    let missed = c.in_default.ensures in
    let (word, busy, is) = missed.held in (
      missed.arena,
      missed.same ∙ c.loop-missed.invariant.1,
      record {
        words = so_far.words ++ word ∷ [];
        count = let count = so_far.count in let more = length-append so_far.words (word ∷ []) in omega (arith, count, more);
        busy = All-append (λ w. w ≢ 0) so_far.words (word ∷ []) so_far.busy (All-cons (λ w. w ≢ 0) word [] busy (λ k d below is. absurd (omega arith)));
        misses = missed_stripe_again c.loop-missed.hand.seat.me.0 c.try_stripe.new.hand.seat.me.0 word c.args.stripe so_far.words c.args.hand.now.seat.me.0 1 (λ _. busy) missed.missed is so_far.misses;
      },
    )

pub returns-in-Ok-clause-within : goal.returns-in-Ok-clause-within
returns-in-Ok-clause-within c =
    let so_far = c.loop-missed.invariant.2 in
    let seen = ap (λ (all : List (List Call)). slice_get all c.args.stripe) (misses_seen c.args.stripe so_far.words c.args.hand.now.seat.me.0 c.loop-missed.hand.seat.me.0 so_far.misses) in
    record {
      waits = record { words = so_far.words; before = c.loop-missed.hand.seat.me.0; misses = so_far.misses; taken = c.in-Ok.ensures.taken; is = c.in-Ok.ensures.lent; begins = λ history is. c.in-Ok.ensures.seen history (seen ∙ is) };
      within_limit = let count = so_far.count in omega (arith, count);
    }
