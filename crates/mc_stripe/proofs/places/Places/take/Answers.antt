use Rattle.std.proofs.Common.{◌≡◌, ◌≢◌, IfSome, Some, sym, ap, ◌∙◌, subst}
use Rattle.mc_stripe.specs.Entries.{by_key, entries_but, entry_at, without_entry}
use Rattle.mc_stripe.specs.Places.{PlaceTable, aside_key}
use Rattle.mc_stripe.specs.StripeState.{Index}
use Rattle.mc_stripe.proofs.Entries.{rising_by_key}
use Rattle.mc_stripe.proofs.Asides.{at_entries_but, stays_without, without_entry_but}
use Rattle.mc_stripe.proofs.places.Places.take.Goals as goal

pub invariant_of-self : goal.invariant_of-self
invariant_of-self c =
    let apart = subst (λ (table : PlaceTable). IfSome (aside_key table) (λ other. other ≢ c.args.key)) (sym c.self.view_is) c.requires.apart in
    subst (λ (entries : Index). IfSome c.self.inside.aside (λ entry. entry_at entries entry.0 ≡ Some entry.1)) (sym c.take.ensures.entries)
    (stays_without (by_key c.self.inside.table.entries) c.self.inside.aside c.args.key (rising_by_key c.self.inside.table.entries) apart c.self.invariant)

pub returns-clause-place : goal.returns-clause-place
returns-clause-place c =
    let apart = subst (λ (table : PlaceTable). IfSome (aside_key table) (λ other. other ≢ c.args.key)) (sym c.self.view_is) c.requires.apart in
    c.take.ensures.place
    ∙ (sym (at_entries_but (by_key c.self.inside.table.entries) _ c.args.key (rising_by_key c.self.inside.table.entries) apart)
    ∙ ap (λ (table : PlaceTable). entry_at table.index c.args.key) c.self.view_is)

pub returns-clause-index : goal.returns-clause-index
returns-clause-index c =
    ap (entries_but _) c.take.ensures.entries
    ∙ (without_entry_but (by_key c.self.inside.table.entries) _ c.args.key (rising_by_key c.self.inside.table.entries)
    ∙ ap (λ (table : PlaceTable). without_entry table.index c.args.key) c.self.view_is)
