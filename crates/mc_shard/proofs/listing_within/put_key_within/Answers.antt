use Rattle.std.proofs.Common.{Err, Ok, ap}
use Rattle.mc_words.specs.hand.Arenas.{setup_of}
use Rattle.mc_items.specs.declared.within.error.WithinError.TheVariants as within_error
use Rattle.mc_shard.specs.Listing.{bytes_of_keys}
use Rattle.mc_shard.proofs.Found.{same_error}
use Rattle.mc_shard.proofs.Keyed.{puts_none, puts_one}
use Rattle.mc_shard.proofs.listing_within.put_key_within.Goals as goal

pub returns-in-Ok-clause-puts : goal.returns-in-Ok-clause-puts
returns-in-Ok-clause-puts c =
    puts_one {E = Unit {0}} (setup_of c.args.arena.now) c.args.hash c.args.into.now.items c.push.new.list.items c.in-Ok-Some.key _ c.args.hand.now c.key_under_within.new.hand (Ok tt) c.in-Ok-Some.field-0-is c.in-Ok-Some.ensures.key c.key_under_within.ensures.calls c.in-Ok.ensures.items

pub returns-in-Ok-None-clause-puts : goal.returns-in-Ok-None-clause-puts
returns-in-Ok-None-clause-puts c =
    puts_none (setup_of c.args.arena.now) c.args.hash (bytes_of_keys c.args.into.now.items) c.args.hand.now c.key_under_within.new.hand (c.in-Ok-None.ensures.none (ap Ok c.in-Ok-None.field-0-is)) c.key_under_within.ensures.calls

pub returns-in-Err-clause-held : goal.returns-in-Err-clause-held
returns-in-Err-clause-held c is = c.in-Err.ensures.held (ap Err (same_error {T = Unit {0}} c.in-Err.error within_error.Held is))
