use Rattle.mc_core.specs.law.Lawful.{RecordedIn}
use Rattle.mc_core.proofs.Hands.FirstHands.{told_first}
use Rattle.mc_core.proofs.Law.LawKept.{events_from_steps}
use Rattle.mc_core.proofs.Histories.ToldSteps.{told_changes, told_steps}
use Rattle.mc_core.proofs.laws.calls_are_kept.Goals as goal

pub returns : goal.returns
returns c = record { first = told_first; changes = told_changes; steps = told_steps; events = events_from_steps RecordedIn told_steps }
