use Rattle.std.proofs.Common.{Err, Ok, ap}
use Rattle.mc_shard.proofs.Found.{the_item}
use Rattle.mc_shard.proofs.Stamps.{gives_version}
use Rattle.mc_shard.proofs.versions.get_with_version_within.Goals as goal

pub returns-in-Err-Held-clause-held : goal.returns-in-Err-Held-clause-held
returns-in-Err-Held-clause-held c = λ is. c.in-Err-Held.ensures.held (ap Err c.in-Err-Held.field-0-is)

pub returns-in-Ok-true-clause-value : goal.returns-in-Ok-true-clause-value
returns-in-Ok-true-clause-value c =
    gives_version c.args.arena.now c.args.at.hash c.args.at.key.now c.args.hand.now c.item_within.new.hand c.in-Ok-Some.item c.stamp-stamp.result (the_item c.args.arena.now c.args.at.hash c.args.hand.now c.item_within.new.hand c.in-Ok-Some.field-0 c.in-Ok-Some.item c.in-Ok-Some.field-0-is c.in-Ok-Some.ensures.item) c.stamp-stamp.ensures.stamp
    c.args.into.now.items c.give_value.new.into.items (c.in-Ok-true.ensures.value (ap Ok c.in-Ok-true.field-0-test))
