use Rattle.std.proofs.Common.{refl, ap, ◌∙◌}
use Rattle.mc_words.specs.hand.View.{View}
use Rattle.mc_words.specs.hand.Views.{stripe_given}
use Rattle.mc_mover.proofs.Kept.{finds_keep}
use Rattle.mc_mover.proofs.saving.evict.Goals as goal

pub returns-in-Ok-clause-evicts : goal.returns-in-Ok-clause-evicts
returns-in-Ok-clause-evicts c =
    let left = c.condemn-condemned.new.stripe.stripe in
    let last : View = c.condemn-condemned.new.hand.seat.me.0 in
    (left, last, c.in-Ok.ensures.condemned, c.give_stripe.ensures.left ∙ ap (λ n. stripe_given n left last) c.condemn-condemned.ensures.number)

pub returns-in-Err-clause-holdings : goal.returns-in-Err-clause-holdings
returns-in-Err-clause-holdings c =
    ap (λ (v : View). v.row.holdings) c.give_stripe.ensures.left
    ∙ finds_keep (λ (v : View). v.row.holdings) (λ one v. refl) (λ chunk one v. refl) c.args.chunk c.args.hand.now.seat.me.0 c.condemn-condemned.new.hand.seat.me.0 c.in-Err.ensures.moved.0

pub returns-in-Err-clause-ids : goal.returns-in-Err-clause-ids
returns-in-Err-clause-ids c =
    ap (λ (v : View). v.row.ids) c.give_stripe.ensures.left
    ∙ finds_keep (λ (v : View). v.row.ids) (λ one v. refl) (λ chunk one v. refl) c.args.chunk c.args.hand.now.seat.me.0 c.condemn-condemned.new.hand.seat.me.0 c.in-Err.ensures.moved.0
