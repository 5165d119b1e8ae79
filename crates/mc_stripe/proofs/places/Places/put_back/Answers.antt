use Rattle.std.proofs.Common.{◌≡◌, Some, sym, ap, ◌∙◌, subst}
use Rattle.mc_stripe.specs.Entries.{by_key, with_entry}
use Rattle.mc_stripe.specs.Places.{PlaceTable, aside_key}
use Rattle.mc_stripe.proofs.Entries.{rising_by_key}
use Rattle.mc_stripe.proofs.Asides.{aside_is, with_entry_but}
use Rattle.mc_stripe.proofs.places.Places.put_back.Goals as goal

pub returns-clause-index : goal.returns-clause-index
returns-clause-index c =
    let entries = by_key c.self.inside.table.entries in
    let is = subst (λ (table : PlaceTable). aside_key table ≡ Some c.args.key) (sym c.self.view_is) c.requires.aside in
    c.put_over.ensures.entries
    ∙ (sym (with_entry_but entries _ c.args.key c.args.place (rising_by_key c.self.inside.table.entries) (aside_is _ c.args.key is))
    ∙ ap (λ (table : PlaceTable). with_entry table.index c.args.key c.args.place) c.self.view_is)
