use Rattle.std.proofs.Common.{refl, sym, ◌∙◌}
use Rattle.mc_c.specs.TenderCalls.{SetsModeAs}
use Rattle.mc_c.proofs.Acted.{tender_acted}
use Rattle.mc_c.proofs.mc_automove.Goals as goal

pub returns-in-Tender : goal.returns-in-Tender
returns-in-Tender c = record { acts = tender_acted (SetsModeAs c.set_automove.result c.args.tries c.args.mode) c.set_automove.result c.args.tender.now _ c.in-Tender.client c.set_automove.new.client (c.is_open.ensures.open.0 c.if-not-is_open.false) (sym c.as_mut.ensures.client ∙ c.in-Tender.is) refl refl c.set_automove.ensures }
