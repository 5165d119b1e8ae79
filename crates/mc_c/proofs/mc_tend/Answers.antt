use Rattle.std.proofs.Common.{refl, sym, ◌∙◌}
use Rattle.mc_c.specs.TenderCalls.{TendsAs}
use Rattle.mc_c.proofs.Acted.{tender_acted}
use Rattle.mc_c.proofs.mc_tend.Goals as goal

pub returns-in-Tender-clause-acts : goal.returns-in-Tender-clause-acts
returns-in-Tender-clause-acts c = tender_acted (TendsAs c.tend.result c.args.tries c.args.done.now c.tend.new.done) c.tend.result c.args.tender.now _ c.in-Tender.client c.tend.new.client (c.is_open.ensures.open.0 c.if-not-is_open.false) (sym c.as_mut.ensures.client ∙ c.in-Tender.is) refl refl c.tend.ensures
