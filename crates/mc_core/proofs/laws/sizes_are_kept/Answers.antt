use Rattle.mc_core.specs.law.Lawful.{SizedIn}
use Rattle.mc_core.proofs.Law.LawKept.{events_from_steps}
use Rattle.mc_core.proofs.Places.Sized.{sized_first, sized_changes, sized_steps}
use Rattle.mc_core.proofs.laws.sizes_are_kept.Goals as goal

pub returns : goal.returns
returns c = record { first = sized_first; changes = sized_changes; steps = sized_steps; events = events_from_steps SizedIn sized_steps }
