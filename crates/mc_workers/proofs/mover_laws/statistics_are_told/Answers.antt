use Rattle.std.proofs.Common.{Bool, ap₂}
use Rattle.mc_pages.specs.declared.numbers.Totals.{Totals}
use Rattle.mc_pages.specs.Accounted.{truth}
use Rattle.mc_watch.specs.Texts.{general_text}
use Rattle.mc_workers.proofs.mover_laws.statistics_are_told.Goals as goal

pub returns-clause-totals : goal.returns-clause-totals
returns-clause-totals c =
    λ survey totals running.
    ap₂ (λ (t : Totals) (moves : Bool). general_text t.pool (truth moves) t.moved t.rescues t.evictions_nomem t.busy) totals running
