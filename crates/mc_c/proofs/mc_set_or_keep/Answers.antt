use Rattle.std.proofs.Common.{refl, sym, ◌∙◌}
use Rattle.mc_c.specs.Calls.{SetsOrKeepsAs}
use Rattle.mc_c.proofs.Acted.{worker_acted}
use Rattle.mc_c.proofs.mc_set_or_keep.Goals as goal

pub returns-in-Worker : goal.returns-in-Worker
returns-in-Worker c = record { acts = worker_acted (SetsOrKeepsAs c.set_or_keep.result c.args.tries c.args.key.now c.args.value.now) c.set_or_keep.result c.args.worker.now _ c.in-Worker.client c.set_or_keep.new.client (c.is_open.ensures.open.0 c.if-not-is_open.false) (sym c.as_mut.ensures.client ∙ c.in-Worker.is) refl refl c.set_or_keep.ensures }
