use Rattle.mc_core.specs.law.Lawful.{CountedIn}
use Rattle.mc_core.proofs.Law.LawKept.{events_from_steps}
use Rattle.mc_core.proofs.Counts.TalliedKept.{counted_first, counted_changes, counted_steps}
use Rattle.mc_core.proofs.laws.counts_are_kept.Goals as goal

pub returns : goal.returns
returns c = record { first = counted_first; changes = counted_changes; steps = counted_steps; events = events_from_steps CountedIn counted_steps }
