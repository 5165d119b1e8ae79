use Rattle.mc_pages.proofs.Roomy.{accounted_there}
use Rattle.mc_pages.proofs.slabs.Slabs.trimmed.Goals as goal

pub returns-clause-accounted : goal.returns-clause-accounted
returns-clause-accounted c = accounted_there c.self.inside c.self.view_is c.self.invariant
