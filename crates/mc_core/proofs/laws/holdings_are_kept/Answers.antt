use Rattle.mc_core.specs.law.Lawful.{HeldIn}
use Rattle.mc_core.proofs.Law.LawKept.{events_from_steps}
use Rattle.mc_core.proofs.Counts.TalliedKept.{held_first, held_changes, held_steps}
use Rattle.mc_core.proofs.laws.holdings_are_kept.Goals as goal

pub returns : goal.returns
returns c = record { first = held_first; changes = held_changes; steps = held_steps; events = events_from_steps HeldIn held_steps }
