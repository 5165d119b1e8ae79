use Rattle.std.proofs.Common.{Err, List, ap, inl, inr, refl, subst, ℕ}
use Rattle.mc_items.proofs.Listings.{on_ok_map}
use Rattle.mc_shard.specs.Listing.{bytes_of_keys}
use Rattle.mc_cache.specs.Listing.{ListsPartAgain}
use Rattle.example_calls.specs.WalkedWithin.{ListsAtSecondTry}
use Rattle.example_calls.proofs.cache.walked_within.keys_at_second_try.Goals as goal

pub returns-in-Ok-clause-lists : goal.returns-in-Ok-clause-lists
returns-in-Ok-clause-lists c = record { between = c.args.worker.now; first = inl refl; lists = c.in-Ok.ensures.lists }

pub returns-in-Err-Held-clause-lists : goal.returns-in-Err-Held-clause-lists
returns-in-Err-Held-clause-lists c =
    let old = bytes_of_keys c.args.into.now.items in
    let middle = bytes_of_keys c.keys_within.new.into.items in
    let new = bytes_of_keys c.keys_within-in-Err-Held.new.into.items in
    on_ok_map (ListsPartAgain c.args.cache.now c.args.shard c.args.stripe middle new c.keys_within.new.self c.keys_within-in-Err-Held.new.self)
    (ListsAtSecondTry c.args.cache.now c.args.tries c.args.shard c.args.stripe old new c.args.worker.now c.keys_within-in-Err-Held.new.self) c.keys_within-in-Err-Held.result
    (λ lists. record {
      between = c.keys_within.new.self;
      first = inr (c.in-Err-Held.ensures.held (ap Err c.in-Err-Held.field-0-is));
      lists = subst (λ (l : List (List ℕ)). ListsPartAgain c.args.cache.now c.args.shard c.args.stripe l new c.keys_within.new.self c.keys_within-in-Err-Held.new.self) c.in-Err-Held.ensures.kept lists;
    }) c.keys_within-in-Err-Held.ensures.lists
