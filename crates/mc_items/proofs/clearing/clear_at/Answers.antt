use Rattle.mc_items.proofs.Clears.{clears_behind, stops_behind}
use Rattle.mc_items.proofs.clearing.clear_at.Goals as goal

pub returns-in-Ok-clause-done : goal.returns-in-Ok-clause-done
returns-in-Ok-clause-done c =
    let done = c.in-Ok.ensures in
    clears_behind c.args.hand.now.number c.args.held.number c.delete_keys.new.held.number c.args.held.stripe c.delete_keys.new.held.stripe c.args.hand.now.seat.me.0 c.delete_keys.new.hand.seat.me.0 c.give_stripe.new.hand.seat.me.0
    done.number done.deletes done.mine c.give_stripe.ensures.given c.give_stripe.ensures.left c.in-Ok.count done.count done.empty

pub returns-in-Err-clause-stops : goal.returns-in-Err-clause-stops
returns-in-Err-clause-stops c =
    let done = c.in-Err.ensures in
    stops_behind c.args.hand.now.number c.args.held.number c.delete_keys.new.held.number c.args.held.stripe c.delete_keys.new.held.stripe c.args.hand.now.seat.me.0 c.delete_keys.new.hand.seat.me.0 c.give_stripe-in-Err.new.hand.seat.me.0
    done.number done.deletes done.mine c.give_stripe-in-Err.ensures.given c.give_stripe-in-Err.ensures.left done.full
