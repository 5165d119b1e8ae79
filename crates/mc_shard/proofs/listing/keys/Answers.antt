use Rattle.std.proofs.Common.{ℕ, List, subst, sym}
use Rattle.mc_words.specs.hand.Arenas.{setup_of, view}
use Rattle.mc_items.specs.Calls.{FindsStripe}
use Rattle.mc_items.specs.Listing.{HasKeysPut}
use Rattle.mc_shard.specs.Listing.{bytes_of_keys}
use Rattle.mc_shard.proofs.Keyed.{lists_stripe, puts_no_more}
use Rattle.mc_shard.proofs.Walks.{on_refusal}
use Rattle.mc_shard.proofs.listing.keys.Goals as goal

pub returns-clause-lists : goal.returns-clause-lists
returns-clause-lists g c =
    lists_stripe (setup_of c.args.arena.now) c.args.stripe c.deref.result.now c.new-hashes.result.items (bytes_of_keys c.args.into.now.items) (bytes_of_keys c.keys_under.new.into.items) c.args.hand.now c.keys_of_stripe.new.hand c.keys_under.new.hand c.keys_under.result
    c.new-hashes.ensures.items
    (subst (λ (hashes : List ℕ). FindsStripe (HasKeysPut c.new-hashes.result.items hashes) c.args.stripe (view c.args.hand.now) (view c.keys_of_stripe.new.hand)) (sym c.deref.ensures.value) c.in_ok-keys_of_stripe.ensures.keys)
    c.keys_under.ensures.looks

pub returns-in_err-keys_of_stripe-clause-refused : goal.returns-in_err-keys_of_stripe-clause-refused
returns-in_err-keys_of_stripe-clause-refused g c = on_refusal c.from_residual.result (puts_no_more (bytes_of_keys c.args.into.now.items))
