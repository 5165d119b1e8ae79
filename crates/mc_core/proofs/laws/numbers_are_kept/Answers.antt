use Rattle.mc_core.specs.law.Lawful.{NumberedIn}
use Rattle.mc_core.proofs.Hands.FirstHands.{numbered_first}
use Rattle.mc_core.proofs.Law.LawKept.{events_from_steps}
use Rattle.mc_core.proofs.Hands.NumberedKept.{numbered_changes}
use Rattle.mc_core.proofs.Hands.NumberedSteps.{numbered_steps}
use Rattle.mc_core.proofs.laws.numbers_are_kept.Goals as goal

pub returns : goal.returns
returns c = record { first = numbered_first; changes = numbered_changes; steps = numbered_steps; events = events_from_steps NumberedIn numbered_steps }
