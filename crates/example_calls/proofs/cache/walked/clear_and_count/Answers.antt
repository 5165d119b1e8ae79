use Rattle.example_calls.proofs.Walked.{stores_none_still}
use Rattle.example_calls.proofs.cache.walked.clear_and_count.Goals as goal

pub returns-in-Ok-clause-clears : goal.returns-in-Ok-clause-clears
returns-in-Ok-clause-clears g c = record { between = c.clear.new.self; clears = c.in-Ok.ensures.clears; gone = c.in-Ok.ensures.gone; counts = c.len-left.ensures.counts }

pub returns-in-Ok-clause-stores_nothing : goal.returns-in-Ok-clause-stores_nothing
returns-in-Ok-clause-stores_nothing g c = stores_none_still c.args.cache.now c.args.worker.now c.clear.new.self c.len-left.new.self c.requires c.clear.ensures.belongs c.clear.ensures.stores_nothing c.len-left.ensures.stores_nothing
