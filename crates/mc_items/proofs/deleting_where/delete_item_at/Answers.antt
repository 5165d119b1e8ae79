use Rattle.mc_items.proofs.ItemDeletes.{was_there}
use Rattle.mc_items.proofs.deleting_where.delete_item_at.Goals as goal

pub returns-in-Ok-clause-done : goal.returns-in-Ok-clause-done
returns-in-Ok-clause-done c =
    let held = c.args.held in
    was_there c.args.hand.now.number held.number held.stripe c.args.key c.args.expected c.in-Ok._there c.args.hand.now.seat.me.0 c.delete_at.new.hand.seat.me.0 (c.other_stamp.ensures.met c.in_default.is) c.in-Ok.ensures.done
