use Rattle.test_pages.proofs.Sized.{sized_back}
use Rattle.test_pages.proofs.tests.pages.driven.Driven.back.Goals as goal

pub invariant_of-self : goal.invariant_of-self
invariant_of-self c = record { sized = sized_back _ _ _ _ c.args.self.now.sized c.back.ensures.back }
