use Rattle.std.proofs.Common.{ℕ, List, refl, ap₂}
use Rattle.mc_watch.specs.Decider.{Window}
use Rattle.mc_watch.proofs.RememberedRules.{remembered_fresh}
use Rattle.mc_watch.proofs.decider.Decider.new.Goals as goal

pub invariant_of-result : goal.invariant_of-result
invariant_of-result c =
    (remembered_fresh c.args.table.now.page c.args.table.now.sizes c.in_ok-classes_of.field-0.items _ c.new.result.windows c.in_ok-classes_of.ensures refl c.new.ensures).0

pub returns : goal.returns
returns c =
    ap₂ (λ (per_page : List ℕ) (windows : List Window). record { per_page = per_page; windows = windows })
    (remembered_fresh c.args.table.now.page c.args.table.now.sizes c.in_ok-classes_of.field-0.items _ c.new.result.windows c.in_ok-classes_of.ensures refl c.new.ensures).1
    c.new.ensures
