use Rattle.example_calls.proofs.Unheld.{all_whole}
use Rattle.example_calls.proofs.cache.tended.tend_whole.Goals as goal

pub returns-then-done-eq0-clause-whole : goal.returns-then-done-eq0-clause-whole
returns-then-done-eq0-clause-whole c = all_whole c.args.tries c.args.cache.now c.in-Ok.done c.args.tender.now c.tend_within.new.self c.in-Ok.ensures.tends c.if-done-eq0.true
