use Rattle.mc_core.specs.law.Lawful.{RowsIn}
use Rattle.mc_core.proofs.Law.LawKept.{events_from_steps}
use Rattle.mc_core.proofs.Hands.RowsKept.{rows_changes, rows_first, rows_steps}
use Rattle.mc_core.proofs.laws.rows_are_kept.Goals as goal

pub returns : goal.returns
returns c = record { first = rows_first; changes = rows_changes; steps = rows_steps; events = events_from_steps RowsIn rows_steps }
