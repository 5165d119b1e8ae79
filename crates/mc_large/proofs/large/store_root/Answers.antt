use Rattle.std.proofs.Common.{◌∙◌, Err, ap}
use Rattle.mc_large.proofs.large.store_root.Goals as goal

pub returns-in-Err-Item-clause-refused : goal.returns-in-Err-Item-clause-refused
returns-in-Err-Item-clause-refused g c = c.set.ensures.refused c.in-Err-Item.error (c.in-Err-Item.is ∙ ap Err c.in-Err-Item.field-0-is)
