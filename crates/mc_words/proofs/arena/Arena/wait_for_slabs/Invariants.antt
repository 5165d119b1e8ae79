use Rattle.std.proofs.Common.{◌≡◌, ◌≢◌, ℕ, false, List}
use Rattle.mc_words.specs.hand.Arenas.{IsHandOf, view}
use Rattle.mc_words.specs.lock.Wait.{MissesSlabs}
use Rattle.mc_words.proofs.Locks.Waits.{last_or}
use Rattle.mc_words.proofs.arena.Arena.wait_for_slabs.Given as goal

abbrev pub invariant-loop : goal.invariant-loop
invariant-loop g l =
    IsHandOf l.fn.self l.hand × (l.hand.locks ≡ l.fn.hand.locks) × ((words : List ℕ) × MissesSlabs words (view l.fn.hand) (view l.hand) × (l.free ≡ false → last_or words 1 ≢ 0))
