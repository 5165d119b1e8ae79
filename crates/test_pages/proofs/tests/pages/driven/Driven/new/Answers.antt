use Rattle.test_pages.proofs.Sized.{sized_fresh}
use Rattle.test_pages.proofs.tests.pages.driven.Driven.new.Goals as goal

pub invariant_of-result : goal.invariant_of-result
invariant_of-result c = record { sized = sized_fresh _ _ c.in_ok-slabs.ensures.fresh }
