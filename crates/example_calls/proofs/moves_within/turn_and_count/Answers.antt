use Rattle.std.proofs.Common.{arith}
use Rattle.mc_words.specs.hand.Arenas.{view}
use Rattle.example_calls.proofs.Misses.{misses_slabs}
use Rattle.example_calls.proofs.moves_within.turn_and_count.Goals as goal

pub returns-clause-missed : goal.returns-clause-missed
returns-clause-missed c is =
    let missed = c.turn_within.ensures.missed is in
    let more = misses_slabs missed.words (view c.args.hand.now) (view c.turn_within.new.hand) missed.misses in
    let count = missed.count in
    omega (arith, more, count)
