use Rattle.mc_core.specs.law.Lawful.{KnownIn}
use Rattle.mc_core.proofs.Known.KnownSteps.{known_first, known_changes, known_steps}
use Rattle.mc_core.proofs.Law.LawKept.{events_from_steps}
use Rattle.mc_core.proofs.laws.known_items_are_kept.Goals as goal

pub returns : goal.returns
returns c = record { first = known_first; changes = known_changes; steps = known_steps; events = events_from_steps KnownIn known_steps }
