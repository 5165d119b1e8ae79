use Rattle.std.proofs.Common.{ap, sym, ◌∙◌, length, arith}
use Rattle.mc_stripe.specs.Entries.{by_key}
use Rattle.mc_stripe.specs.Places.{PlaceTable}
use Rattle.mc_stripe.proofs.Asides.{count_but, count_all}
use Rattle.mc_stripe.proofs.places.Places.key_count.Goals as goal

pub returns-in-Some-clause-count : goal.returns-in-Some-clause-count
returns-in-Some-clause-count c =
    omega (arith, c.saturating_sub.ensures, c.key_count-all.ensures.count, count_but (by_key c.self.inside.table.entries) c.self.inside.aside _ c.in-Some.is c.self.invariant)
    ∙ ap (λ (table : PlaceTable). length table.index) c.self.view_is

pub returns-in-None-clause-count : goal.returns-in-None-clause-count
returns-in-None-clause-count c =
    c.key_count-all.ensures.count
    ∙ (sym (count_all (by_key c.self.inside.table.entries) c.self.inside.aside c.in-None.is)
    ∙ ap (λ (table : PlaceTable). length table.index) c.self.view_is)
