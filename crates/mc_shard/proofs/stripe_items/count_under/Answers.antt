use Rattle.std.proofs.Common.{◌∙◌, refl}
use Rattle.mc_words.specs.hand.Arenas.{setup_of}
use Rattle.mc_shard.specs.ClassItems.{FindsSizesUnder}
use Rattle.mc_shard.proofs.ByClass.{adds_some, one_more_size}
use Rattle.mc_shard.proofs.stripe_items.count_under.Goals as goal

pub loop-hash-preserved : goal.loop-hash-preserved
loop-hash-preserved g c =
    let inv = c.loop-hash.invariant in
    let look = c.size_under.ensures in
    record {
      idle = look.idle;
      number = look.number ∙ inv.number;
      done = one_more_size (setup_of c.args.arena.now) c.args.hashes.now c.loop-hash.hash-index c.in-Ok.found c.args.rows.now c.loop-hash.rows c.add_found.new.rows c.args.hand.now c.loop-hash.hand c.size_under.new.hand _ refl inv.done c.in-Ok.ensures.looks c.add_found.ensures.added;
      stores_nothing = look.stores_nothing ∙ inv.stores_nothing;
      slabs = look.slabs ∙ inv.slabs;
    }

pub returns-in-Err-clause-refused : goal.returns-in-Err-clause-refused
returns-in-Err-clause-refused g c =
    adds_some (λ sizes. FindsSizesUnder (setup_of c.args.arena.now) c.args.hashes.now c.loop-hash.hash-index sizes c.args.hand.now c.loop-hash.hand) (setup_of c.args.arena.now).table c.args.rows.now c.loop-hash.rows c.loop-hash.invariant.done
