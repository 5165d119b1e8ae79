use Rattle.std.proofs.Common.{Ok, ap}
use Rattle.mc_cache.proofs.opening_within.open_within.Goals as goal

pub returns-clause-new : goal.returns-clause-new
returns-clause-new c = c.in_ok-fill_within.ensures.new (ap Ok c.if-not-branch.false)
