use Rattle.std.proofs.Common.{◌++◌, ◌∙◌, ap, arith, refl}
use Rattle.std.specs.Option.{option_to_list}
use Rattle.mc_words.specs.hand.Arenas.{setup_of}
use Rattle.mc_shard.specs.Listing.{bytes_of_keys}
use Rattle.mc_shard.proofs.Keyed.{one_more_key, puts_some}
use Rattle.mc_shard.proofs.listing_within.keys_under_within.Goals as goal

pub loop-hash-preserved : goal.loop-hash-preserved
loop-hash-preserved c =
    let inv = c.loop-hash.invariant in
    let put = c.put_key_within.ensures in
    let puts = c.in-Ok.ensures.puts in
    let more = one_more_key (setup_of c.args.arena.now) c.args.hashes.now c.loop-hash.hash-index inv.done.0 (bytes_of_keys c.args.into.now.items) (bytes_of_keys c.loop-hash.into.items) (bytes_of_keys c.put_key_within.new.into.items) c.args.hand.now c.loop-hash.hand c.put_key_within.new.hand _ refl inv.done.1 inv.done.2 puts in
    record {
      idle = put.idle;
      number = put.number ∙ inv.number;
      done = (inv.done.0 ++ option_to_list puts.found, more.0, more.1);
      stores_nothing = put.stores_nothing ∙ inv.stores_nothing;
      slabs = put.slabs ∙ inv.slabs;
    }

pub returns-in-Err-clause-refused : goal.returns-in-Err-clause-refused
returns-in-Err-clause-refused c =
    puts_some (bytes_of_keys c.args.into.now.items) (bytes_of_keys c.put_key_within.new.into.items) c.loop-hash.invariant.done.0 (ap bytes_of_keys c.in-Err.ensures.refused ∙ c.loop-hash.invariant.done.2)

pub returns-in-Err-clause-held : goal.returns-in-Err-clause-held
returns-in-Err-clause-held c is = record {
  place = c.loop-hash.hash-index;
  in_range = omega (arith, c.loop-hash-test.true);
  keys = c.loop-hash.invariant.done.0;
  between = c.loop-hash.hand;
  looks = c.loop-hash.invariant.done.1;
  missed = c.in-Err.ensures.held is;
}
