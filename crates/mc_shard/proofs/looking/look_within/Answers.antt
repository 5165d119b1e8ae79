use Rattle.std.proofs.Common.{Err, Ok, ap}
use Rattle.mc_shard.proofs.Found.{the_item}
use Rattle.mc_shard.proofs.Stamps.{sees_key, sees_other}
use Rattle.mc_shard.proofs.looking.look_within.Goals as goal

pub returns-in-Ok-None-clause-sees : goal.returns-in-Ok-None-clause-sees
returns-in-Ok-None-clause-sees c = (c.in-Ok-None.ensures.none (ap Ok c.in-Ok-None.field-0-is)).0

pub returns-then-tell_key-clause-sees : goal.returns-then-tell_key-clause-sees
returns-then-tell_key-clause-sees c =
    sees_key c.args.arena.now c.args.at.hash c.args.at.key.now c.args.hand.now c.item_within.new.hand c.in-Ok-Some.item c.stamp-stamp.result (the_item c.args.arena.now c.args.at.hash c.args.hand.now c.item_within.new.hand c.in-Ok-Some.field-0 c.in-Ok-Some.item c.in-Ok-Some.field-0-is c.in-Ok-Some.ensures.item) c.stamp-stamp.ensures.stamp
    (c.tell_key.ensures.own c.if-tell_key.true)

pub returns-else-tell_key-clause-sees : goal.returns-else-tell_key-clause-sees
returns-else-tell_key-clause-sees c =
    sees_other c.args.arena.now c.args.at.hash c.args.at.key.now c.args.hand.now c.item_within.new.hand c.in-Ok-Some.item c.stamp-stamp.result (the_item c.args.arena.now c.args.at.hash c.args.hand.now c.item_within.new.hand c.in-Ok-Some.field-0 c.in-Ok-Some.item c.in-Ok-Some.field-0-is c.in-Ok-Some.ensures.item) c.stamp-stamp.ensures.stamp
    (c.tell_key.ensures.other c.if-tell_key.false)

pub returns-in-Err-NoMemory-clause-full : goal.returns-in-Err-NoMemory-clause-full
returns-in-Err-NoMemory-clause-full c = λ is. c.in-Err-NoMemory.ensures.full (ap Err c.in-Err-NoMemory.field-0-is)

pub returns-in-Err-Held-clause-held : goal.returns-in-Err-Held-clause-held
returns-in-Err-Held-clause-held c = λ is. c.in-Err-Held.ensures.held (ap Err c.in-Err-Held.field-0-is)
