use Rattle.mc_cache.specs.Tending.{IsTenderOf}
use Rattle.test_cache.proofs.tests.eight.tend_beside.Given as goal

abbrev pub invariant-loop : goal.invariant-loop
invariant-loop g l = IsTenderOf l.cache l.tender
