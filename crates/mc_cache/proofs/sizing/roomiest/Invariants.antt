use Rattle.mc_cache.specs.Sizing.{IsSized}
use Rattle.mc_cache.proofs.sizing.roomiest.Given as goal

abbrev pub invariant-loop-pages : goal.invariant-loop-pages
invariant-loop-pages l = IsSized l.bytes l.usual_item l.workers l.best
