use Rattle.std.proofs.Common.{◌≡◌, ◌∙◌, true, length, Option, refl, sym, ap, subst, arith, length-set}
use Rattle.std.proofs.lemmas.Bool.{and_parts}
use Rattle.mc_core.specs.declared.holding.Holding.{Holding}
use Rattle.mc_core.specs.model.State.{State}
use Rattle.mc_core.specs.run.Items.{can_link_holding, can_record_link}
use Rattle.mc_core.proofs.Frame.SameSlabs.{told_link_keeps}
use Rattle.mc_core.proofs.state.State.link.Goals as goal

pub tell_link-requires-clause-allowed : goal.tell_link-requires-clause-allowed
tell_link-requires-clause-allowed c =
    let found = sym c.take_holding.ensures.holding ∙ c.in-Some.is in
    let all = subst (λ (h : Option Holding). can_link_holding c.args.self.now c.args.hand c.args.chunk h ≡ true) found c.requires.allowed in
    subst (λ (s : State). can_record_link s c.args.hand c.in-Some.holding ≡ true) (sym c.take_holding.ensures.without) (and_parts _ _ (and_parts _ _ (and_parts _ _ all).0).0).1

-- there are as many hands as before
pub gain-requires : goal.gain-requires
gain-requires c =
    let ids_long = λ (state : State). length state.ids in
    let take = ap ids_long c.take_holding.ensures.without in
    let told = ap ids_long c.tell_link.ensures ∙ told_link_keeps ids_long c.take_holding.new.self c.args.hand c.in-Some.holding c.in-Some.holding.kind refl (length-set _ _ _) in
    let put = ap ids_long c.set_head.ensures in
    omega (arith, c.requires.here, take, told, put)
