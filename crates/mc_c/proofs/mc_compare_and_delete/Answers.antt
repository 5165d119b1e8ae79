use Rattle.std.proofs.Common.{refl, sym, ◌∙◌}
use Rattle.mc_c.specs.Calls.{DeletesVersionAs}
use Rattle.mc_c.proofs.Acted.{worker_acted}
use Rattle.mc_c.proofs.mc_compare_and_delete.Goals as goal

pub returns-in-Worker : goal.returns-in-Worker
returns-in-Worker c = record { acts = worker_acted (DeletesVersionAs c.delete_version.result c.args.tries c.args.key.now c.args.version) c.delete_version.result c.args.worker.now _ c.in-Worker.client c.delete_version.new.client (c.is_open.ensures.open.0 c.if-not-is_open.false) (sym c.as_mut.ensures.client ∙ c.in-Worker.is) refl refl c.delete_version.ensures }
