use Rattle.std.proofs.Common.{◌++◌, ◌∙◌, ap, refl}
use Rattle.std.specs.Option.{option_to_list}
use Rattle.mc_words.specs.hand.Arenas.{setup_of}
use Rattle.mc_shard.specs.Listing.{bytes_of_keys}
use Rattle.mc_shard.proofs.Keyed.{one_more_key, puts_some}
use Rattle.mc_shard.proofs.Walks.{on_refusal}
use Rattle.mc_shard.proofs.listing.keys_under.Goals as goal

pub loop-hash-preserved : goal.loop-hash-preserved
loop-hash-preserved g c =
    let inv = c.loop-hash.invariant in
    let put = c.put_key.ensures in
    let puts = c.in_ok-put_key.ensures.puts in
    let more = one_more_key (setup_of c.args.arena.now) c.args.hashes.now c.loop-hash.hash-index inv.done.0 (bytes_of_keys c.args.into.now.items) (bytes_of_keys c.loop-hash.into.items) (bytes_of_keys c.put_key.new.into.items) c.args.hand.now c.loop-hash.hand c.put_key.new.hand _ refl inv.done.1 inv.done.2 puts in
    record {
      idle = put.idle;
      number = put.number ∙ inv.number;
      done = (inv.done.0 ++ option_to_list puts.found, more.0, more.1);
      stores_nothing = put.stores_nothing ∙ inv.stores_nothing;
      slabs = put.slabs ∙ inv.slabs;
    }

pub returns-in_err-put_key-clause-refused : goal.returns-in_err-put_key-clause-refused
returns-in_err-put_key-clause-refused g c =
    on_refusal c.from_residual.result (puts_some (bytes_of_keys c.args.into.now.items) (bytes_of_keys c.put_key.new.into.items) c.loop-hash.invariant.done.0 (ap bytes_of_keys c.in_err-put_key.ensures.refused ∙ c.loop-hash.invariant.done.2))
