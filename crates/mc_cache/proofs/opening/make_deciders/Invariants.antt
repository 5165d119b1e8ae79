use Rattle.mc_cache.specs.Tending.{IsFreshDecider}
use Rattle.mc_cache.proofs.Deciders.{FirstPaired}
use Rattle.mc_cache.proofs.opening.make_deciders.Given as goal

abbrev pub invariant-loop-arena : goal.invariant-loop-arena
invariant-loop-arena l = FirstPaired IsFreshDecider l.arena-index l.arenas l.deciders.items
