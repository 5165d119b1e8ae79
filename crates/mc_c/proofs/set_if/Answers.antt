use Rattle.std.proofs.Common.{refl, sym, ◌∙◌}
use Rattle.mc_c.specs.Calls.{SetsIfAs}
use Rattle.mc_c.proofs.Acted.{worker_acted}
use Rattle.mc_c.proofs.set_if.Goals as goal

pub returns-in-Worker : goal.returns-in-Worker
returns-in-Worker c = worker_acted (SetsIfAs c.set_if.result c.args.tries c.args.key.now c.args.value.now c.args.when) c.set_if.result c.args.worker.now _ c.in-Worker.client c.set_if.new.client (c.is_open.ensures.open.0 c.if-not-is_open.false) (sym c.as_mut.ensures.client ∙ c.in-Worker.is) refl refl c.set_if.ensures
