use Rattle.std.proofs.Common.{ℕ, sym, ap, ap₂, ◌∙◌}
use Rattle.mc_pages.specs.declared.numbers.Totals.{Totals}
use Rattle.mc_pages.specs.SlabState.{totals_of}
use Rattle.mc_pages.specs.InOrder.{slabs_of}
use Rattle.mc_pages.proofs.Owners.{count_by-AreGranted}
use Rattle.mc_pages.proofs.Roomy.{same_state, accounted_there}
use Rattle.mc_pages.proofs.slabs.Slabs.totals.Goals as goal

pub returns-clause-totals : goal.returns-clause-totals
returns-clause-totals c =
    let totals : ℕ → ℕ → Totals = λ granted pool. record (totals_of (slabs_of c.self.inside)) { granted = granted; pool = pool } in
    ap₂ totals (sym (count_by-AreGranted c.self.inside.owners.items c.self.inside.granted c.self.invariant.order.lowest)) (c.len.ensures ∙ c.self.inside.pool.ok.0) ∙ ap totals_of (same_state c.self.view_is)

pub returns-clause-accounted : goal.returns-clause-accounted
returns-clause-accounted c = accounted_there c.self.inside c.self.view_is c.self.invariant
