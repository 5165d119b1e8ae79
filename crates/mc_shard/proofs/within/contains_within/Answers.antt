use Rattle.std.proofs.Common.{Err, None, Ok, ap, false, true}
use Rattle.mc_words.specs.hand.Arenas.{setup_of, view}
use Rattle.mc_items.specs.ItemRefs.{item_words}
use Rattle.mc_shard.proofs.Found.{finds_key, finds_other, same_ok, the_item}
use Rattle.mc_shard.proofs.Slabs.{still_left}
use Rattle.mc_shard.proofs.Recorded.{get_at_most}
use Rattle.mc_shard.proofs.within.contains_within.Goals as goal

pub returns-in-Ok-Some-clause-key : goal.returns-in-Ok-Some-clause-key
returns-in-Ok-Some-clause-key c = λ is. finds_key (setup_of c.args.arena.now) c.args.at.hash c.args.at.key.now c.args.hand.now (item_words (view c.item_within.new.hand) c.in-Ok-Some.item) (the_item c.args.arena.now c.args.at.hash c.args.hand.now c.item_within.new.hand c.in-Ok-Some.field-0 c.in-Ok-Some.item c.in-Ok-Some.field-0-is c.in-Ok-Some.ensures.item).finds (c.tell_key.ensures.own (same_ok c.tell_key.result true is))

pub returns-in-Ok-Some-clause-other : goal.returns-in-Ok-Some-clause-other
returns-in-Ok-Some-clause-other c = λ is. finds_other (setup_of c.args.arena.now) c.args.at.hash c.args.at.key.now c.args.hand.now (item_words (view c.item_within.new.hand) c.in-Ok-Some.item) (the_item c.args.arena.now c.args.at.hash c.args.hand.now c.item_within.new.hand c.in-Ok-Some.field-0 c.in-Ok-Some.item c.in-Ok-Some.field-0-is c.in-Ok-Some.ensures.item).finds (c.tell_key.ensures.other (same_ok c.tell_key.result false is))

pub returns-in-Ok-Some-clause-slabs : goal.returns-in-Ok-Some-clause-slabs
returns-in-Ok-Some-clause-slabs c = still_left (view c.args.hand.now) (view c.item_within.new.hand) (view c.tell_key.new.hand) c.item_within.ensures.slabs c.tell_key.ensures.slabs

pub returns-in-Ok-Some-clause-calls : goal.returns-in-Ok-Some-clause-calls
returns-in-Ok-Some-clause-calls c = get_at_most (setup_of c.args.arena.now) c.args.at.hash c.args.hand.now c.item_within.new.hand c.tell_key.new.hand c.item_within.ensures.calls c.tell_key.ensures.calls

pub returns-in-Ok-None-clause-other : goal.returns-in-Ok-None-clause-other
returns-in-Ok-None-clause-other c = λ is. record { words = None; finds = (c.in-Ok-None.ensures.none (ap Ok c.in-Ok-None.field-0-is)).0; other = tt }

pub returns-in-Err-NoMemory-clause-full : goal.returns-in-Err-NoMemory-clause-full
returns-in-Err-NoMemory-clause-full c = λ is. c.in-Err-NoMemory.ensures.full (ap Err c.in-Err-NoMemory.field-0-is)

pub returns-in-Err-Held-clause-held : goal.returns-in-Err-Held-clause-held
returns-in-Err-Held-clause-held c = λ is. c.in-Err-Held.ensures.held (ap Err c.in-Err-Held.field-0-is)
