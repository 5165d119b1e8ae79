use Rattle.mc_core.proofs.Law.LawKept.{are_played, are_lawful}
use Rattle.mc_core.proofs.laws.runs_are_lawful.Goals as goal

pub returns-clause-played : goal.returns-clause-played
returns-clause-played c = are_played

pub returns-clause-lawful : goal.returns-clause-lawful
returns-clause-lawful c = are_lawful
