use Rattle.std.proofs.Common.{refl, sym, ◌∙◌}
use Rattle.mc_c.specs.Listing.{ListsAs}
use Rattle.mc_c.proofs.Acted.{worker_acted}
use Rattle.mc_c.proofs.mc_keys.Goals as goal

pub returns-in-Worker-clause-acts : goal.returns-in-Worker-clause-acts
returns-in-Worker-clause-acts c = worker_acted (ListsAs c.keys.result c.args.tries c.args.shard c.args.stripe c.args.out.now c.args.len.now c.keys.new.out c.keys.new.len) c.keys.result c.args.worker.now _ c.in-Worker.client c.keys.new.client (c.is_open.ensures.open.0 c.if-not-is_open.false) (sym c.as_mut.ensures.client ∙ c.in-Worker.is) refl refl c.keys.ensures
