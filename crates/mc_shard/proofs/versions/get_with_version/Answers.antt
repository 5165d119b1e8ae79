use Rattle.std.proofs.Common.{Ok, ap}
use Rattle.mc_shard.proofs.Found.{the_item}
use Rattle.mc_shard.proofs.Stamps.{gives_version}
use Rattle.mc_shard.proofs.versions.get_with_version.Goals as goal

pub returns-in-Ok-true-clause-value : goal.returns-in-Ok-true-clause-value
returns-in-Ok-true-clause-value g c =
    gives_version c.args.arena.now c.args.at.hash c.args.at.key.now c.args.hand.now c.get_item.new.hand c.in-Some.item c.stamp-version.result (the_item c.args.arena.now c.args.at.hash c.args.hand.now c.get_item.new.hand c.in_ok-item.field-0 c.in-Some.item c.in-Some.is c.in_ok-item.ensures.item) c.stamp-version.ensures.stamp
    c.args.into.now.items c.give_value.new.into.items (c.in-Ok-true.ensures.value (ap Ok c.in-Ok-true.field-0-test))
