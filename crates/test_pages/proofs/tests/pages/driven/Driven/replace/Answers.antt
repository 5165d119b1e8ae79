use Rattle.test_pages.proofs.Sized.{sized_replace}
use Rattle.test_pages.proofs.tests.pages.driven.Driven.replace.Goals as goal

pub invariant_of-self : goal.invariant_of-self
invariant_of-self c = record { sized = sized_replace _ _ _ _ _ c.args.self.now.sized c.replace.ensures.replaced }
