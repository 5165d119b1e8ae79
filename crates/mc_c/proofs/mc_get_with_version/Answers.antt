use Rattle.std.proofs.Common.{refl, sym, ◌∙◌}
use Rattle.mc_c.specs.Calls.{GetsVersionAs}
use Rattle.mc_c.proofs.Acted.{worker_acted}
use Rattle.mc_c.proofs.mc_get_with_version.Goals as goal

pub returns-in-Worker-clause-acts : goal.returns-in-Worker-clause-acts
returns-in-Worker-clause-acts c = worker_acted (GetsVersionAs c.get_with_version.result c.args.tries c.args.key.now c.args.out.now c.args.len.now c.args.version.now c.get_with_version.new.out c.get_with_version.new.len c.get_with_version.new.version) c.get_with_version.result c.args.worker.now _ c.in-Worker.client c.get_with_version.new.client (c.is_open.ensures.open.0 c.if-not-is_open.false) (sym c.as_mut.ensures.client ∙ c.in-Worker.is) refl refl c.get_with_version.ensures
