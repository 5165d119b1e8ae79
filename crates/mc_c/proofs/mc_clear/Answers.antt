use Rattle.std.proofs.Common.{refl, sym, ◌∙◌}
use Rattle.mc_c.specs.Walks.{ClearsAs}
use Rattle.mc_c.proofs.Acted.{worker_acted}
use Rattle.mc_c.proofs.mc_clear.Goals as goal

pub returns-in-Worker-clause-acts : goal.returns-in-Worker-clause-acts
returns-in-Worker-clause-acts c = worker_acted (ClearsAs c.clear.result c.args.tries c.args.count.now c.clear.new.count) c.clear.result c.args.worker.now _ c.in-Worker.client c.clear.new.client (c.is_open.ensures.open.0 c.if-not-is_open.false) (sym c.as_mut.ensures.client ∙ c.in-Worker.is) refl refl c.clear.ensures
