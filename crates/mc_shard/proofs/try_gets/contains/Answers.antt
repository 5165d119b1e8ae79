use Rattle.std.proofs.Common.{false, true}
use Rattle.mc_words.specs.hand.Arenas.{setup_of, view}
use Rattle.mc_items.specs.ItemRefs.{item_words}
use Rattle.mc_shard.proofs.Found.{finds_key, finds_other, same_ok, the_item}
use Rattle.mc_shard.proofs.Slabs.{still_left}
use Rattle.mc_shard.proofs.Recorded.{get_at_most}
use Rattle.mc_shard.proofs.try_gets.contains.Goals as goal

pub returns-clause-key : goal.returns-clause-key
returns-clause-key g c = λ is. finds_key (setup_of c.args.arena.now) c.args.at.hash c.args.at.key.now c.args.hand.now (item_words (view c.get_item.new.hand) c.in-Some.item) (the_item c.args.arena.now c.args.at.hash c.args.hand.now c.get_item.new.hand c.in_ok-item.field-0 c.in-Some.item c.in-Some.is c.in_ok-item.ensures.item).finds (c.tell_key.ensures.own (same_ok c.tell_key.result true is))

pub returns-clause-other : goal.returns-clause-other
returns-clause-other g c = λ is. finds_other (setup_of c.args.arena.now) c.args.at.hash c.args.at.key.now c.args.hand.now (item_words (view c.get_item.new.hand) c.in-Some.item) (the_item c.args.arena.now c.args.at.hash c.args.hand.now c.get_item.new.hand c.in_ok-item.field-0 c.in-Some.item c.in-Some.is c.in_ok-item.ensures.item).finds (c.tell_key.ensures.other (same_ok c.tell_key.result false is))

pub returns-clause-slabs : goal.returns-clause-slabs
returns-clause-slabs g c = still_left (view c.args.hand.now) (view c.get_item.new.hand) (view c.tell_key.new.hand) c.get_item.ensures.slabs c.tell_key.ensures.slabs

pub returns-clause-calls : goal.returns-clause-calls
returns-clause-calls g c = get_at_most (setup_of c.args.arena.now) c.args.at.hash c.args.hand.now c.get_item.new.hand c.tell_key.new.hand c.get_item.ensures.calls c.tell_key.ensures.calls
