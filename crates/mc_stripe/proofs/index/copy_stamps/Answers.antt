use Rattle.std.proofs.Common.{rules}
use Rattle.mc_stripe.proofs.Copies.{copied_all}
use Rattle.mc_stripe.proofs.Once.{once_all}
use Rattle.mc_stripe.proofs.index.copy_stamps.Goals as goal

pub returns-clause-copied : goal.returns-clause-copied
returns-clause-copied c = copied_all c.args.index.now.entries c.clear.new.self.items c.push_stamps.new.base.items (search rules) c.push_stamps.ensures

pub returns-clause-each_once : goal.returns-clause-each_once
returns-clause-each_once c = once_all c.args.index.now.entries c.clear.new.self.items c.push_stamps.new.base.items c.len-wanted.ensures.unique (search rules) c.push_stamps.ensures
