use Rattle.std.proofs.Common.{refl, sym, ◌∙◌}
use Rattle.mc_c.specs.Calls.{TouchesAs}
use Rattle.mc_c.proofs.Acted.{worker_acted}
use Rattle.mc_c.proofs.mc_touch.Goals as goal

pub returns-in-Worker : goal.returns-in-Worker
returns-in-Worker c = record { acts = worker_acted (TouchesAs c.touch.result c.args.tries c.args.key.now) c.touch.result c.args.worker.now _ c.in-Worker.client c.touch.new.client (c.is_open.ensures.open.0 c.if-not-is_open.false) (sym c.as_mut.ensures.client ∙ c.in-Worker.is) refl refl c.touch.ensures }
