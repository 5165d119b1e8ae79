use Rattle.std.proofs.Common.{Ok, ap}
use Rattle.mc_words.specs.hand.Arenas.{setup_of}
use Rattle.mc_shard.proofs.Found.{the_item}
use Rattle.mc_shard.proofs.Recorded.{get_at_most}
use Rattle.mc_shard.proofs.Stamps.{sees_key, sees_other}
use Rattle.mc_shard.proofs.looking.look.Goals as goal

pub returns-in_default-clause-sees : goal.returns-in_default-clause-sees
returns-in_default-clause-sees g c = (c.in_ok-item.ensures.none (ap Ok c.in_default.is)).0

pub returns-then-tell_key-clause-sees : goal.returns-then-tell_key-clause-sees
returns-then-tell_key-clause-sees g c =
    sees_key c.args.arena.now c.args.at.hash c.args.at.key.now c.args.hand.now c.get_item.new.hand c.in-Some.item c.stamp-stamp.result (the_item c.args.arena.now c.args.at.hash c.args.hand.now c.get_item.new.hand c.in_ok-item.field-0 c.in-Some.item c.in-Some.is c.in_ok-item.ensures.item) c.stamp-stamp.ensures.stamp
    (c.tell_key.ensures.own c.if-tell_key.true)

pub returns-then-tell_key-clause-calls : goal.returns-then-tell_key-clause-calls
returns-then-tell_key-clause-calls g c = get_at_most (setup_of c.args.arena.now) c.args.at.hash c.args.hand.now c.get_item.new.hand c.tell_key.new.hand c.get_item.ensures.calls c.tell_key.ensures.calls

pub returns-else-tell_key-clause-sees : goal.returns-else-tell_key-clause-sees
returns-else-tell_key-clause-sees g c =
    sees_other c.args.arena.now c.args.at.hash c.args.at.key.now c.args.hand.now c.get_item.new.hand c.in-Some.item c.stamp-stamp.result (the_item c.args.arena.now c.args.at.hash c.args.hand.now c.get_item.new.hand c.in_ok-item.field-0 c.in-Some.item c.in-Some.is c.in_ok-item.ensures.item) c.stamp-stamp.ensures.stamp
    (c.tell_key.ensures.other c.if-tell_key.false)

pub returns-else-tell_key-clause-calls : goal.returns-else-tell_key-clause-calls
returns-else-tell_key-clause-calls g c = get_at_most (setup_of c.args.arena.now) c.args.at.hash c.args.hand.now c.get_item.new.hand c.tell_key.new.hand c.get_item.ensures.calls c.tell_key.ensures.calls
