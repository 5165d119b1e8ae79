use Rattle.std.proofs.Common.{sym, ◌∙◌}
use Rattle.mc_c.proofs.client.WorkerClient.join.Goals as goal

pub returns-in-Err-clause-kept : goal.returns-in-Err-clause-kept
returns-in-Err-clause-kept c = c.take_back.ensures.spare _ c.in-Err.ensures.value_returned ∙ sym c.in-Some.ensures.items
