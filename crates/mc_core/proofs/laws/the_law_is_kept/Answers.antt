use Rattle.mc_core.proofs.Law.LawKept.{lawful_first, lawful_changes, lawful_steps, lawful_events}
use Rattle.mc_core.proofs.laws.the_law_is_kept.Goals as goal

pub returns : goal.returns
returns c = record { first = lawful_first; changes = lawful_changes; steps = lawful_steps; events = lawful_events }
