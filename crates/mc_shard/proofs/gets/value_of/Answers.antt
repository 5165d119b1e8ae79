use Rattle.mc_words.specs.hand.Arenas.{setup_of, view}
use Rattle.mc_items.specs.ItemRefs.{item_words}
use Rattle.mc_shard.proofs.Found.{finds_other, gives_value, refused_some, the_item}
use Rattle.mc_shard.proofs.Recorded.{get_at_most}
use Rattle.mc_shard.proofs.Slabs.{still_left}
use Rattle.mc_shard.proofs.gets.value_of.Goals as goal

pub returns-clause-value : goal.returns-clause-value
returns-clause-value g c = λ is.
    let found = the_item c.args.arena.now c.args.at.hash c.args.hand.now c.get_item.new.hand c.in_ok-item.field-0 c.in-Some.item c.in-Some.is c.in_ok-item.ensures.item in
    gives_value (setup_of c.args.arena.now) c.args.at.hash c.args.at.key.now c.args.hand.now (item_words (view c.get_item.new.hand) c.in-Some.item) found.finds c.args.into.now.items c.give_value.new.into.items (c.give_value.ensures.value is)

pub returns-clause-other : goal.returns-clause-other
returns-clause-other g c = λ is. finds_other (setup_of c.args.arena.now) c.args.at.hash c.args.at.key.now c.args.hand.now (item_words (view c.get_item.new.hand) c.in-Some.item) (the_item c.args.arena.now c.args.at.hash c.args.hand.now c.get_item.new.hand c.in_ok-item.field-0 c.in-Some.item c.in-Some.is c.in_ok-item.ensures.item).finds (c.give_value.ensures.other is)

pub returns-clause-slabs : goal.returns-clause-slabs
returns-clause-slabs g c = still_left (view c.args.hand.now) (view c.get_item.new.hand) (view c.give_value.new.hand) c.get_item.ensures.slabs c.give_value.ensures.slabs

pub returns-clause-calls : goal.returns-clause-calls
returns-clause-calls g c = get_at_most (setup_of c.args.arena.now) c.args.at.hash c.args.hand.now c.get_item.new.hand c.give_value.new.hand c.get_item.ensures.calls c.give_value.ensures.calls

pub returns-clause-full : goal.returns-clause-full
returns-clause-full g c =
    refused_some c.give_value.result (setup_of c.args.arena.now) c.args.at.hash c.args.hand.now c.give_value.new.hand
    (item_words (view c.get_item.new.hand) c.in-Some.item, (the_item c.args.arena.now c.args.at.hash c.args.hand.now c.get_item.new.hand c.in_ok-item.field-0 c.in-Some.item c.in-Some.is c.in_ok-item.ensures.item).finds)
