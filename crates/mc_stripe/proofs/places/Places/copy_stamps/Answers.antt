use Rattle.std.proofs.Common.{◌≡◌, OnOk, ap, ◌∙◌, sym, subst}
use Rattle.mc_stripe.specs.Entries.{by_key}
use Rattle.mc_stripe.specs.Places.{PlaceTable}
use Rattle.mc_stripe.specs.StripeState.{Index, index_stamps, with_aside}
use Rattle.mc_stripe.proofs.Entries.{rising_by_key}
use Rattle.mc_stripe.proofs.Asides.{all_with_aside}
use Rattle.mc_stripe.proofs.places.Places.copy_stamps.Goals as goal

pub returns-clause-copied : goal.returns-clause-copied
returns-clause-copied c =
    let whole = all_with_aside (by_key c.self.inside.table.entries) c.self.inside.aside (rising_by_key c.self.inside.table.entries) c.self.invariant in
    let all = sym whole ∙ ap (λ (table : PlaceTable). with_aside table.index table.aside) c.self.view_is in
    subst (λ (index : Index). OnOk c.copy_stamps.result (by_key c.copy_stamps.new.base.items ≡ index_stamps index)) all c.copy_stamps.ensures.copied
