use Rattle.std.proofs.Common.{Err, None, Ok, ap, false, inr, true}
use Rattle.mc_words.specs.hand.Arenas.{setup_of, view}
use Rattle.mc_items.specs.ItemRefs.{item_words}
use Rattle.mc_shard.proofs.Found.{finds_other, gives_value, same_ok, the_item}
use Rattle.mc_shard.proofs.Recorded.{get_at_most}
use Rattle.mc_shard.proofs.Slabs.{still_left}
use Rattle.mc_shard.proofs.within.get_within.Goals as goal

pub returns-in-Ok-clause-value : goal.returns-in-Ok-clause-value
returns-in-Ok-clause-value c = λ is.
    let found = the_item c.args.arena.now c.args.at.hash c.args.hand.now c.item_within.new.hand c.in-Ok-Some.field-0 c.in-Ok-Some.item c.in-Ok-Some.field-0-is c.in-Ok-Some.ensures.item in
    gives_value (setup_of c.args.arena.now) c.args.at.hash c.args.at.key.now c.args.hand.now (item_words (view c.item_within.new.hand) c.in-Ok-Some.item) found.finds c.args.into.now.items c.give_value.new.into.items (c.in-Ok.ensures.value (ap Ok (same_ok c.in-Ok.there true is)))

pub returns-in-Ok-clause-other : goal.returns-in-Ok-clause-other
returns-in-Ok-clause-other c = λ is. finds_other (setup_of c.args.arena.now) c.args.at.hash c.args.at.key.now c.args.hand.now (item_words (view c.item_within.new.hand) c.in-Ok-Some.item) (the_item c.args.arena.now c.args.at.hash c.args.hand.now c.item_within.new.hand c.in-Ok-Some.field-0 c.in-Ok-Some.item c.in-Ok-Some.field-0-is c.in-Ok-Some.ensures.item).finds (c.in-Ok.ensures.other (ap Ok (same_ok c.in-Ok.there false is)))

pub returns-in-Ok-clause-kept : goal.returns-in-Ok-clause-kept
returns-in-Ok-clause-kept c = λ isnt. c.in-Ok.ensures.kept (λ is. isnt (ap Ok (same_ok c.in-Ok.there true is)))

pub returns-in-Ok-clause-slabs : goal.returns-in-Ok-clause-slabs
returns-in-Ok-clause-slabs c = still_left (view c.args.hand.now) (view c.item_within.new.hand) (view c.give_value.new.hand) c.item_within.ensures.slabs c.give_value.ensures.slabs

pub returns-in-Err-clause-slabs : goal.returns-in-Err-clause-slabs
returns-in-Err-clause-slabs c = still_left (view c.args.hand.now) (view c.item_within.new.hand) (view c.give_value.new.hand) c.item_within.ensures.slabs c.give_value.ensures.slabs

pub returns-in-Ok-clause-calls : goal.returns-in-Ok-clause-calls
returns-in-Ok-clause-calls c = get_at_most (setup_of c.args.arena.now) c.args.at.hash c.args.hand.now c.item_within.new.hand c.give_value.new.hand c.item_within.ensures.calls c.give_value.ensures.calls

pub returns-in-Err-clause-calls : goal.returns-in-Err-clause-calls
returns-in-Err-clause-calls c = get_at_most (setup_of c.args.arena.now) c.args.at.hash c.args.hand.now c.item_within.new.hand c.give_value.new.hand c.item_within.ensures.calls c.give_value.ensures.calls

pub returns-in-Err-clause-full : goal.returns-in-Err-clause-full
returns-in-Err-clause-full c = λ is. inr (item_words (view c.item_within.new.hand) c.in-Ok-Some.item, (the_item c.args.arena.now c.args.at.hash c.args.hand.now c.item_within.new.hand c.in-Ok-Some.field-0 c.in-Ok-Some.item c.in-Ok-Some.field-0-is c.in-Ok-Some.ensures.item).finds)

pub returns-in-Ok-None-clause-other : goal.returns-in-Ok-None-clause-other
returns-in-Ok-None-clause-other c = λ is. record { words = None; finds = (c.in-Ok-None.ensures.none (ap Ok c.in-Ok-None.field-0-is)).0; other = tt }

pub returns-in-Err-Held-clause-held : goal.returns-in-Err-Held-clause-held
returns-in-Err-Held-clause-held c = λ is. c.in-Err-Held.ensures.held (ap Err c.in-Err-Held.field-0-is)
