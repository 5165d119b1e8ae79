use Rattle.test_pages.proofs.Sized.{sized_touch}
use Rattle.test_pages.proofs.tests.pages.driven.Driven.touch.Goals as goal

pub invariant_of-self : goal.invariant_of-self
invariant_of-self c = record { sized = sized_touch _ _ _ _ c.args.self.now.sized c.touch.ensures.touched }
