use Rattle.mc_core.specs.law.Lawful.{RescuedIn}
use Rattle.mc_core.proofs.Law.LawKept.{events_from_steps}
use Rattle.mc_core.proofs.ItemWords.RescuedSteps.{rescued_first, rescued_changes, rescued_steps}
use Rattle.mc_core.proofs.laws.rescues_are_kept.Goals as goal

pub returns : goal.returns
returns c = record { first = rescued_first; changes = rescued_changes; steps = rescued_steps; events = events_from_steps RescuedIn rescued_steps }
