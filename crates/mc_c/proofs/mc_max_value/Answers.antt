use Rattle.std.proofs.Common.{refl, sym, ◌∙◌}
use Rattle.mc_c.specs.Calls.{ReturnsMostAs}
use Rattle.mc_c.proofs.Acted.{worker_acted}
use Rattle.mc_c.proofs.mc_max_value.Goals as goal

pub returns-in-Worker-clause-acts : goal.returns-in-Worker-clause-acts
returns-in-Worker-clause-acts c = worker_acted (ReturnsMostAs c.max_value.result c.args.key_len c.args.most.now c.max_value.new.most) c.max_value.result c.args.worker.now _ c.in-Worker.client c.max_value.new.client (c.is_open.ensures.open.0 c.if-not-is_open.false) (sym c.as_mut.ensures.client ∙ c.in-Worker.is) refl refl c.max_value.ensures
