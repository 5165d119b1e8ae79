use Rattle.std.proofs.Common.{ℕ, map, Option, Some, ap, sym, ◌∙◌}
use Rattle.std.specs.Option.{option_map}
use Rattle.mc_stripe.specs.declared.history.Call.TheVariants.{Get}
use Rattle.std.proofs.Common.{[]}
use Rattle.std.specs.Option.{option_map_or}
use Rattle.mc_core.specs.model.Views.{Row}
use Rattle.mc_core.specs.model.Holdings.{holding_of, item_of, stamp_in_words}
use Rattle.mc_words.specs.declared.item.refs.Ref.{Ref}
use Rattle.mc_words.specs.hand.View.{View}
use Rattle.mc_words.specs.item.Calls.{with_own_call}
use Rattle.mc_words.specs.item.Items.{held_item}
use Rattle.mc_items.proofs.Tells.{looked_tells}
use Rattle.mc_items.proofs.getting.look_up.Goals as goal

pub returns-in-Ok-Some-clause-calls : goal.returns-in-Ok-Some-clause-calls
returns-in-Ok-Some-clause-calls c =
    let r = c.in-Ok-Some.reference in
    let before : View = c.args.hand.now.seat.me.0 in
    let got : View = c.refer_at.new.hand.seat.me.0 in
    let last : View = c.look_at.new.hand.seat.me.0 in
    let number = c.args.hand.now.number in
    let stripe = c.args.held.number in
    let same = ap (λ (v : View). v.row) c.look_at.ensures.view in
    let tells = looked_tells number stripe c.args.held.stripe c.args.key c.in-Ok-Some.field-0 before got c.in-Ok-Some.ensures.done in
    let read = sym (ap (λ (row : Row). stamp_in_words (option_map_or item_of (holding_of r.chunk row.holdings) [])) same) ∙ (sym (ap (λ (x : Ref). stamp_in_words (held_item last x.chunk)) c.look_at.ensures.chunk) ∙ c.look_at.ensures.item.stamp) in
    let stamp = c.in-Ok-Some.ensures.stamp ∙ (ap (option_map (λ (x : Ref). stamp_in_words (held_item got x.chunk))) c.in-Ok-Some.field-0-is ∙ ap Some read) in
    ap (λ (row : Row). row.knows.mine) same ∙ (tells ∙ ap (λ (o : Option ℕ). map (with_own_call number stripe (Get number c.args.key o)) before.row.knows.mine) stamp)

pub returns-in-Ok-None-clause-calls : goal.returns-in-Ok-None-clause-calls
returns-in-Ok-None-clause-calls c =
    let before : View = c.args.hand.now.seat.me.0 in
    let got : View = c.refer_at.new.hand.seat.me.0 in
    let number = c.args.hand.now.number in
    let stripe = c.args.held.number in
    let tells = looked_tells number stripe c.args.held.stripe c.args.key c.in-Ok-None.field-0 before got c.in-Ok-None.ensures.done in
    let stamp = c.in-Ok-None.ensures.stamp ∙ ap (option_map (λ (x : Ref). stamp_in_words (held_item got x.chunk))) c.in-Ok-None.field-0-is in
    tells ∙ ap (λ (o : Option ℕ). map (with_own_call number stripe (Get number c.args.key o)) before.row.knows.mine) stamp
