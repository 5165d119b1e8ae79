use Rattle.std.proofs.Common.{◌≡◌, Bool, true, false, is_some, ap, sym, refl, ◌∙◌}
use Rattle.mc_stripe.specs.StripeState.{chunk_and_stamp}
use Rattle.mc_items.specs.Storing.{key_put_aside, stripe_lifted}
use Rattle.mc_items.proofs.Stores.{none_from, none_lifted, nothing_aside, some_aside}
use Rattle.mc_items.proofs.storing.put_aside.Goals as goal

pub returns-clause-lifted : goal.returns-clause-lifted
returns-clause-lifted c = by c.put_aside.result refl
  where
    by : (test : Bool) → c.put_aside.result ≡ test → c.put_aside.new.held.stripe ≡ stripe_lifted c.args.held.now.stripe c.args.key
    by true is = c.put_aside.ensures.stripe is
    by false is =
        ap (λ held. held.stripe) (c.put_aside.ensures.same is).0
        ∙ none_lifted c.args.held.now.stripe c.args.key (none_from (chunk_and_stamp c.args.held.now.stripe.state c.args.key) (sym c.put_aside.ensures.there ∙ is)) c.requires.whole

pub returns-clause-view : goal.returns-clause-view
returns-clause-view c = by c.put_aside.result refl
  where
    by : (test : Bool) → c.put_aside.result ≡ test → c.put_aside.new.hand.seat.me.0 ≡ key_put_aside c.args.held.now.number c.args.held.now.stripe c.args.key c.args.hand.now.seat.me.0
    by true is =
        some_aside c.args.hand.now.number c.args.held.now.number c.args.held.now.stripe c.args.key c.args.hand.now.seat.me.0 c.put_aside.new.hand.seat.me.0 c.requires.fresh (sym c.put_aside.ensures.there ∙ is) (c.put_aside.ensures.unlinked is)
    by false is =
        (c.put_aside.ensures.same is).1
        ∙ nothing_aside c.args.held.now.number c.args.held.now.stripe c.args.key c.args.hand.now.seat.me.0 c.requires.held (none_from (chunk_and_stamp c.args.held.now.stripe.state c.args.key) (sym c.put_aside.ensures.there ∙ is)) c.requires.whole
