use Rattle.test_pages.proofs.Sized.{sized_clear}
use Rattle.test_pages.proofs.tests.pages.driven.Driven.clear.Goals as goal

pub invariant_of-self : goal.invariant_of-self
invariant_of-self c = record { sized = sized_clear _ _ _ _ c.args.self.now.sized c.clear.ensures.cleared }
