use Rattle.mc_items.proofs.FreesEvicted.{dead_still, freed, went_well}
use Rattle.mc_items.proofs.evicting.free_evicted.Goals as goal

pub returns-clause-freed : goal.returns-clause-freed
returns-clause-freed c =
    let ok = c.put_back.ensures.succeeds (dead_still c.args.hand.now.seat.me.0 c.evicted.new.hand.seat.me.0 c.args.slabs.now.shared c.args.class _ c.args.chunk c.evicted.ensures.view c.requires.dead) in
    let back = went_well c.put_back.result ok c.put_back.ensures.back in
    freed c.args.hand.now.number c.args.class c.args.chunk c.args.hand.now.seat.me.0 c.evicted.new.hand.seat.me.0 c.put_back.new.hand.seat.me.0 c.args.slabs.now.shared c.evicted.new.held.shared c.put_back.new.held.shared
    c.evicted.ensures.view c.evicted.ensures.happens c.evicted.ensures.counted back.0 back.1
