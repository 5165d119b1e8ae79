use Rattle.std.proofs.Common.{ℕ, List, subst, sym}
use Rattle.std.specs.Bool.{⊤}
use Rattle.mc_words.specs.hand.Arenas.{setup_of, view}
use Rattle.mc_items.specs.Calls.{FindsStripe}
use Rattle.mc_items.specs.Listing.{HasKeysPut}
use Rattle.mc_shard.proofs.ByClass.{adds_none, counts_stripe}
use Rattle.mc_shard.proofs.Walks.{on_refusal}
use Rattle.mc_shard.proofs.stripe_items.items_of_stripe.Goals as goal

pub returns-clause-counts : goal.returns-clause-counts
returns-clause-counts g c =
    counts_stripe (setup_of c.args.arena.now) c.args.stripe c.deref.result.now c.new-hashes.result.items c.args.rows.now c.count_under.new.rows c.args.hand.now c.keys_of_stripe.new.hand c.count_under.new.hand c.count_under.result c.new-hashes.ensures.items
    (subst (λ (hashes : List ℕ). FindsStripe (HasKeysPut c.new-hashes.result.items hashes) c.args.stripe (view c.args.hand.now) (view c.keys_of_stripe.new.hand)) (sym c.deref.ensures.value) c.in_ok-keys_of_stripe.ensures.keys)
    c.count_under.ensures.counts

pub returns-in_err-keys_of_stripe-clause-refused : goal.returns-in_err-keys_of_stripe-clause-refused
returns-in_err-keys_of_stripe-clause-refused g c = on_refusal c.from_residual.result (adds_none (λ sizes. ⊤) (setup_of c.args.arena.now).table c.args.rows.now tt)
