use Rattle.test_pages.proofs.Sized.{sized_pop}
use Rattle.test_pages.proofs.tests.pages.shared.Boxed.pop.Goals as goal

pub invariant_of-self : goal.invariant_of-self
invariant_of-self c = record { sized = sized_pop _ _ _ c.args.class c.args.self.now.sized c.hand_out.ensures.popped }
