use Rattle.std.proofs.Common.{ap, Ok}
use Rattle.mc_words.specs.hand.Arenas.{setup_of, view}
use Rattle.mc_items.specs.ItemRefs.{item_words}
use Rattle.mc_shard.proofs.ByClass.{shows_none, shows_size}
use Rattle.mc_shard.proofs.Found.{the_item}
use Rattle.mc_shard.proofs.Recorded.{get_at_most}
use Rattle.mc_shard.proofs.Slabs.{still_left}
use Rattle.mc_shard.proofs.stripe_items.size_under.Goals as goal

pub returns-in-Ok-Some-clause-looks : goal.returns-in-Ok-Some-clause-looks
returns-in-Ok-Some-clause-looks g c =
    let finds = (the_item c.args.arena.now c.args.hash c.args.hand.now c.get_item.new.hand _ c.in-Ok-Some.item c.in-Ok-Some.field-0-is c.in-Ok-Some.ensures.item).finds in
    record {
      shows = shows_size (setup_of c.args.arena.now) c.args.hash c.args.hand.now (item_words (view c.get_item.new.hand) c.in-Ok-Some.item) c.take_size.result finds c.take_size.ensures.own c.take_size.ensures.none;
      calls = get_at_most (setup_of c.args.arena.now) c.args.hash c.args.hand.now c.get_item.new.hand c.take_size.new.hand c.get_item.ensures.calls c.take_size.ensures.calls;
    }

pub returns-in-Ok-Some-clause-slabs : goal.returns-in-Ok-Some-clause-slabs
returns-in-Ok-Some-clause-slabs g c = still_left (view c.args.hand.now) (view c.get_item.new.hand) (view c.take_size.new.hand) c.get_item.ensures.slabs c.take_size.ensures.slabs

pub returns-in-Ok-None-clause-looks : goal.returns-in-Ok-None-clause-looks
returns-in-Ok-None-clause-looks g c = record { shows = shows_none (setup_of c.args.arena.now) c.args.hash c.args.hand.now (c.in-Ok-None.ensures.none (ap Ok c.in-Ok-None.field-0-is)).0; calls = c.get_item.ensures.calls }

pub returns-in-Ok-None-clause-idle : goal.returns-in-Ok-None-clause-idle
returns-in-Ok-None-clause-idle g c = (c.in-Ok-None.ensures.none (ap Ok c.in-Ok-None.field-0-is)).1
