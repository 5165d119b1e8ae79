use Rattle.std.proofs.Common.{ℕ, ap, sym, subst, ◌∙◌}
use Rattle.mc_stripe.specs.Entries.{AreRising}
use Rattle.mc_stripe.specs.StripeState.{ReadyStripe, chunk_and_stamp, can_store}
use Rattle.mc_core.specs.model.Holdings.{has_fresh}
use Rattle.mc_core.specs.run.Items.{is_none_else_aside}
use Rattle.mc_words.specs.hand.View.{View}
use Rattle.mc_words.specs.declared.hand.held.StripeHeld.{StripeHeld}
use Rattle.mc_items.proofs.Stores.{fresh_among, lifted_alone, lifted_nowhere}
use Rattle.mc_items.proofs.Freed.{full_from}
use Rattle.mc_items.proofs.storing.store_at.Goals as goal

pub put_aside-requires-clause-fresh : goal.put_aside-requires-clause-fresh
put_aside-requires-clause-fresh c =
    let view : View = c.args.hand.now.seat.me.0 in
    ap (λ (v : View). has_fresh v.row.holdings) c.in_default-reserve.ensures.view ∙ fresh_among c.args.fresh.chunk view.row.holdings c.requires.fresh.holding c.requires.fresh.found c.requires.fresh.fresh

pub link-reference-requires-clause-new : goal.link-reference-requires-clause-new
link-reference-requires-clause-new c =
    let key : ℕ = c.args.key in
    let value : ReadyStripe = c.reserve.new.held.stripe in
    let rising : AreRising value.state.index = subst AreRising (ap (λ (h : StripeHeld). h.stripe.state.index) (sym c.in_default-reserve.ensures.reserved)) c.requires.lent.legal.rising in
    ap (chunk_and_stamp c.put_aside.new.held.stripe.state) c.requires.key ∙ (ap (λ (v : ReadyStripe). chunk_and_stamp v.state key) c.put_aside.ensures.lifted ∙ lifted_nowhere value key rising)

pub link-reference-requires-clause-aside : goal.link-reference-requires-clause-aside
link-reference-requires-clause-aside c =
    let key : ℕ = c.args.key in
    let value : ReadyStripe = c.reserve.new.held.stripe in
    ap (is_none_else_aside c.put_aside.new.held.stripe.state) c.requires.key ∙ (ap (λ (v : ReadyStripe). is_none_else_aside v.state key) c.put_aside.ensures.lifted ∙ lifted_alone value key)

pub returns-in-Err-clause-refused : goal.returns-in-Err-clause-refused
returns-in-Err-clause-refused c = full_from (can_store c.args.held.stripe) c.reserve.result c.in-Err.error c.in-Err.is c.reserve.ensures.succeeds
