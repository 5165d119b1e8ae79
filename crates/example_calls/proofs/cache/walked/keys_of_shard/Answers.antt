use Rattle.std.proofs.Common.{◌≡◌, arith, subst, ℕ}
use Rattle.mc_cache.specs.Listing.{stripes_in}
use Rattle.mc_shard.specs.Listing.{bytes_of_keys}
use Rattle.example_calls.specs.Walked.{ListsFirstParts}
use Rattle.example_calls.proofs.Walked.{one_more_part, parts_put_more}
use Rattle.example_calls.proofs.cache.walked.keys_of_shard.Goals as goal

pub loop-stripe-preserved : goal.loop-stripe-preserved
loop-stripe-preserved g c =
    let inv = c.loop-stripe.invariant in
    record {
      belongs = c.keys.ensures.belongs;
      listed = one_more_part c.args.cache.now c.args.shard c.loop-stripe.stripe (bytes_of_keys c.args.into.now.items) (bytes_of_keys c.loop-stripe.into.items) (bytes_of_keys c.keys.new.into.items) c.args.worker.now c.loop-stripe.worker c.keys.new.self inv.listed c.in_ok-keys.ensures.lists;
    }

pub returns-clause-lists : goal.returns-clause-lists
returns-clause-lists g c =
    let ends : c.loop-stripe.stripe ≡ stripes_in c.args.cache.now c.args.shard = omega (arith, c.loop-stripe-test.false, c.loop-stripe.auto.stripe-end, c.stripes-stripe-end.ensures) in
    subst (λ (n : ℕ). ListsFirstParts c.args.cache.now c.args.shard n (bytes_of_keys c.args.into.now.items) (bytes_of_keys c.loop-stripe.into.items) c.args.worker.now c.loop-stripe.worker) ends c.loop-stripe.invariant.listed

pub returns-in_err-keys-clause-refused : goal.returns-in_err-keys-clause-refused
returns-in_err-keys-clause-refused g c =
    parts_put_more c.from_residual.result c.args.cache.now c.args.shard c.loop-stripe.stripe (bytes_of_keys c.args.into.now.items) (bytes_of_keys c.loop-stripe.into.items) (bytes_of_keys c.keys.new.into.items) c.args.worker.now c.loop-stripe.worker c.loop-stripe.invariant.listed c.in_err-keys.ensures.refused
