use Rattle.std.proofs.Common.{◌≡◌}
use Rattle.mc_words.specs.hand.Arenas.{IsHandOf, view}
use Rattle.mc_words.specs.item.Fresh.{IsFreshOf}
use Rattle.test_arena.proofs.tests.words.threads.fill_all.Given as goal

abbrev pub invariant-loop-place : goal.invariant-loop-place
invariant-loop-place l = IsHandOf l.arena l.hand × IsFreshOf (view l.hand) l.fresh.chunk l.fresh.room × (l.place-end ≡ l.fresh.room)
