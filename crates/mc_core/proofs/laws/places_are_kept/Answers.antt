use Rattle.mc_core.specs.law.Lawful.{PlacedIn}
use Rattle.mc_core.proofs.Law.LawKept.{events_from_steps}
use Rattle.mc_core.proofs.Places.PlacedChanges.{placed_changes}
use Rattle.mc_core.proofs.Places.PlacedSteps.{placed_first, placed_steps}
use Rattle.mc_core.proofs.laws.places_are_kept.Goals as goal

pub returns : goal.returns
returns c = record { first = placed_first; changes = placed_changes; steps = placed_steps; events = events_from_steps PlacedIn placed_steps }
