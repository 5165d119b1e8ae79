use Rattle.std.proofs.Common.{refl, sym, ◌∙◌}
use Rattle.mc_c.specs.TenderCalls.{CountsAs}
use Rattle.mc_c.proofs.Acted.{tender_acted}
use Rattle.mc_c.proofs.mc_stats.Goals as goal

pub returns-in-Tender-clause-acts : goal.returns-in-Tender-clause-acts
returns-in-Tender-clause-acts c = tender_acted (CountsAs c.stats.result c.args.tries c.args.totals.now c.args.classes.now c.args.count.now c.stats.new.totals c.stats.new.classes c.stats.new.count) c.stats.result c.args.tender.now _ c.in-Tender.client c.stats.new.client (c.is_open.ensures.open.0 c.if-not-is_open.false) (sym c.as_mut.ensures.client ∙ c.in-Tender.is) refl refl c.stats.ensures
