use Rattle.mc_core.specs.law.Lawful.{HandsIn}
use Rattle.mc_core.proofs.Hands.FirstHands.{hands_first}
use Rattle.mc_core.proofs.Hands.HandsKept.{hands_changes}
use Rattle.mc_core.proofs.Hands.HandsSteps.{hands_steps}
use Rattle.mc_core.proofs.Law.LawKept.{events_from_steps}
use Rattle.mc_core.proofs.laws.hands_are_kept.Goals as goal

pub returns : goal.returns
returns c = record { first = hands_first; changes = hands_changes; steps = hands_steps; events = events_from_steps HandsIn hands_steps }
