use Rattle.mc_items.proofs.PutIn.{hinted_gets_are_legal, hinted_gets_leave_others}
use Rattle.mc_items.proofs.laws.hinted_gets_are_legal.Goals as goal

pub returns-clause-legal : goal.returns-clause-legal
returns-clause-legal c = hinted_gets_are_legal

pub returns-clause-others : goal.returns-clause-others
returns-clause-others c = hinted_gets_leave_others
