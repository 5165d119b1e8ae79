use Rattle.mc_pages.proofs.BasePages.{replayed, within_limit, beyond_limit}
use Rattle.mc_pages.proofs.laws.ledger_goes_on.Goals as goal

pub returns-clause-replayed : goal.returns-clause-replayed
returns-clause-replayed c = replayed

pub returns-clause-within_limit : goal.returns-clause-within_limit
returns-clause-within_limit c = within_limit

pub returns-clause-beyond_limit : goal.returns-clause-beyond_limit
returns-clause-beyond_limit c = λ slabs class all. beyond_limit slabs all class
