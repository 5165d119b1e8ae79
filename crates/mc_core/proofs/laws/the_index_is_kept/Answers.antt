use Rattle.mc_core.specs.law.Lawful.{IndexedIn}
use Rattle.mc_core.proofs.Index.IndexedKept.{indexed_first, indexed_changes, indexed_steps}
use Rattle.mc_core.proofs.Law.LawKept.{events_from_steps}
use Rattle.mc_core.proofs.laws.the_index_is_kept.Goals as goal

pub returns : goal.returns
returns c = record { first = indexed_first; changes = indexed_changes; steps = indexed_steps; events = events_from_steps IndexedIn indexed_steps }
