use Rattle.mc_core.specs.law.Lawful.{SeenIn}
use Rattle.mc_core.proofs.Law.LawKept.{events_from_steps}
use Rattle.mc_core.proofs.Seen.SeenSteps.{seen_first, seen_changes, seen_steps}
use Rattle.mc_core.proofs.laws.looks_are_kept.Goals as goal

pub returns : goal.returns
returns c = record { first = seen_first; changes = seen_changes; steps = seen_steps; events = events_from_steps SeenIn seen_steps }
