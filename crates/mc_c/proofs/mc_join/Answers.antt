use Rattle.std.proofs.Common.{refl, sym, ◌∙◌}
use Rattle.mc_c.specs.Joining.{JoinsAs}
use Rattle.mc_c.proofs.Acted.{worker_acted}
use Rattle.mc_c.proofs.mc_join.Goals as goal

pub returns-in-Worker-clause-acts : goal.returns-in-Worker-clause-acts
returns-in-Worker-clause-acts c = worker_acted (JoinsAs c.join.result c.args.out.now c.join.new.out) c.join.result c.args.first.now _ c.in-Worker.client c.join.new.client (c.is_open.ensures.open.0 c.if-not-is_open.false) (sym c.as_mut.ensures.client ∙ c.in-Worker.is) refl refl c.join.ensures
