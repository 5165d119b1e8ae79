use Rattle.std.proofs.Common.{Ok, ap}
use Rattle.mc_words.specs.hand.Arenas.{setup_of}
use Rattle.mc_shard.specs.Listing.{bytes_of_keys}
use Rattle.mc_shard.proofs.Keyed.{puts_none, puts_one}
use Rattle.mc_shard.proofs.listing.put_key.Goals as goal

pub returns-in-Ok-Some-clause-puts : goal.returns-in-Ok-Some-clause-puts
returns-in-Ok-Some-clause-puts g c =
    puts_one (setup_of c.args.arena.now) c.args.hash c.args.into.now.items c.push.new.list.items c.in-Ok-Some.key _ c.args.hand.now c.key_under.new.hand c.push.result c.in-Ok-Some.field-0-is c.in-Ok-Some.ensures.key c.key_under.ensures.calls c.push.ensures.items

pub returns-in-Ok-None-clause-puts : goal.returns-in-Ok-None-clause-puts
returns-in-Ok-None-clause-puts g c =
    puts_none (setup_of c.args.arena.now) c.args.hash (bytes_of_keys c.args.into.now.items) c.args.hand.now c.key_under.new.hand (c.in-Ok-None.ensures.none (ap Ok c.in-Ok-None.field-0-is)) c.key_under.ensures.calls
