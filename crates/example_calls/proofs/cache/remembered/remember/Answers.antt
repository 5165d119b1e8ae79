use Rattle.std.proofs.Common.{ap}
use Rattle.std.specs.Prelude.{Ok}
use Rattle.example_calls.proofs.cache.remembered.remember.Goals as goal

pub returns-in-Ok-true-clause-found : goal.returns-in-Ok-true-clause-found
returns-in-Ok-true-clause-found g c same = c.in-Ok-true.ensures.value (ap Ok c.in-Ok-true.field-0-test)
