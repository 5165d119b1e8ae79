use Rattle.std.proofs.Common.{[], ◌∷◌, ◌++◌, ◌∙◌, ◌≢◌, length-append, arith}
use Rattle.std.proofs.lemmas.List.Elements.{All-append, All-cons}
use Rattle.mc_words.proofs.Locks.Waits.{missed_again}
use Rattle.mc_words.proofs.arena.Arena.slabs_within.Goals as goal

pub loop-missed-preserved : goal.loop-missed-preserved
loop-missed-preserved c =
    let so_far = c.loop-missed.invariant.2 in
    let missed = c.in_default.ensures in
    let (word, busy, is) = missed.held in (
      missed.arena,
      missed.same ∙ c.loop-missed.invariant.1,
      record {
        words = so_far.words ++ word ∷ [];
        count = let count = so_far.count in let more = length-append so_far.words (word ∷ []) in omega (arith, count, more);
        busy = All-append (λ w. w ≢ 0) so_far.words (word ∷ []) so_far.busy (All-cons (λ w. w ≢ 0) word [] busy (λ k d below is. absurd (omega arith)));
        misses = missed_again c.loop-missed.hand.seat.me.0 c.try_slabs.new.hand.seat.me.0 word so_far.words c.args.hand.now.seat.me.0 1 (λ _. busy) missed.missed is so_far.misses;
      },
    )

pub returns-in-Ok-clause-within : goal.returns-in-Ok-clause-within
returns-in-Ok-clause-within c =
    let so_far = c.loop-missed.invariant.2 in
    record {
      waits = record { words = so_far.words; before = c.loop-missed.hand.seat.me.0; misses = so_far.misses; taken = c.in-Ok.ensures.taken; is = c.in-Ok.ensures.lent };
      within_limit = let count = so_far.count in omega (arith, count);
    }
