use Rattle.std.proofs.Common.{All, vec_len}
use Rattle.mc_words.specs.hand.Arenas.{IsHandOf}
use Rattle.test_arena.proofs.tests.words.threads.join_all.Given as goal

abbrev pub invariant-loop-worked : goal.invariant-loop-worked
invariant-loop-worked l =
    IsHandOf l.arena l.joined.hand
    × All (λ worked. IsHandOf l.arena worked.hand) l.all.items

abbrev pub decreases-loop-worked : goal.decreases-loop-worked
decreases-loop-worked l = vec_len l.all
