use Rattle.std.proofs.Common.{◌∙◌}
use Rattle.test_pages.proofs.Sized.{sized_fresh}
use Rattle.test_pages.proofs.tests.pages.shared.Boxed.new.Goals as goal

pub invariant_of-result : goal.invariant_of-result
invariant_of-result c = record { sized = sized_fresh _ _ (c.in_ok-shared.ensures.boxed ∙ c.in_ok-slabs.ensures.fresh) }
