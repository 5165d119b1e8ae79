use Rattle.mc_core.specs.law.Lawful.{LegalIn}
use Rattle.mc_core.proofs.Law.LawKept.{events_from_steps}
use Rattle.mc_core.proofs.Histories.LegalKept.{legal_first, legal_changes, legal_steps}
use Rattle.mc_core.proofs.laws.histories_are_kept.Goals as goal

pub returns : goal.returns
returns c = record { first = legal_first; changes = legal_changes; steps = legal_steps; events = events_from_steps LegalIn legal_steps }
