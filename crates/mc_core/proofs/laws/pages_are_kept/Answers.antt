use Rattle.mc_core.specs.law.Lawful.{PagedIn}
use Rattle.mc_core.proofs.Law.LawKept.{events_from_steps}
use Rattle.mc_core.proofs.Places.PagedChanges.{paged_changes}
use Rattle.mc_core.proofs.Places.PagedSteps.{paged_first, paged_steps}
use Rattle.mc_core.proofs.laws.pages_are_kept.Goals as goal

pub returns : goal.returns
returns c = record { first = paged_first; changes = paged_changes; steps = paged_steps; events = events_from_steps PagedIn paged_steps }
