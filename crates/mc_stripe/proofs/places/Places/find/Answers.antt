use Rattle.std.proofs.Common.{nat_eq, ℕ, Option, Some, sym, ap, ◌∙◌}
use Rattle.std.specs.Option.{option_eq}
use Rattle.mc_stripe.specs.Entries.{by_key, entry_at}
use Rattle.mc_stripe.specs.Places.{PlaceTable, aside_key}
use Rattle.mc_stripe.proofs.Entries.{rising_by_key}
use Rattle.mc_stripe.proofs.Asides.{key_is, key_is_not, none_aside, at_entries_but}
use Rattle.mc_stripe.proofs.places.Places.find.Goals as goal

pub returns-then-eq : goal.returns-then-eq
returns-then-eq c =
    let aside = c.key_aside.ensures ∙ ap aside_key (sym c.self.view_is) in
    let is = key_is _ c.args.key (ap (λ (key : Option ℕ). option_eq nat_eq key (Some c.args.key)) (sym aside) ∙ (sym c.eq.ensures ∙ c.if-eq.true)) in
    sym (none_aside (by_key c.self.inside.table.entries) _ c.args.key (rising_by_key c.self.inside.table.entries) is)
    ∙ ap (λ (table : PlaceTable). entry_at table.index c.args.key) c.self.view_is

pub returns : goal.returns
returns c =
    let aside = c.key_aside.ensures ∙ ap aside_key (sym c.self.view_is) in
    let apart = key_is_not _ c.args.key (ap (λ (key : Option ℕ). option_eq nat_eq key (Some c.args.key)) (sym aside) ∙ (sym c.eq.ensures ∙ c.if-eq.false)) in
    c.place_in.ensures
    ∙ (sym (at_entries_but (by_key c.self.inside.table.entries) _ c.args.key (rising_by_key c.self.inside.table.entries) apart)
    ∙ ap (λ (table : PlaceTable). entry_at table.index c.args.key) c.self.view_is)
