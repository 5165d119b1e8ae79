use Rattle.std.proofs.Common.{◌≡◌, Ok, ℕ, List, ◌∙◌, ap, arith, inr, length, subst, sym}
use Rattle.mc_words.specs.hand.Arenas.{setup_of, view}
use Rattle.mc_items.specs.Calls.{FindsStripe}
use Rattle.mc_items.specs.Listing.{HasKeysPut}
use Rattle.mc_shard.specs.Listing.{bytes_of_keys}
use Rattle.mc_shard.proofs.Keyed.{cut_off, lists_stripe, stops_looking}
use Rattle.mc_shard.proofs.listing_within.keys_within.Goals as goal

pub returns-in-Ok-keys_under_within-clause-lists : goal.returns-in-Ok-keys_under_within-clause-lists
returns-in-Ok-keys_under_within-clause-lists c =
    lists_stripe {E = Unit {0}} (setup_of c.args.arena.now) c.args.stripe c.deref.result.now c.new-hashes.result.items (bytes_of_keys c.args.into.now.items) (bytes_of_keys c.keys_under_within.new.into.items) c.args.hand.now c.keys_of_stripe_within.new.hand c.keys_under_within.new.hand (Ok tt)
    c.new-hashes.ensures.items
    (subst (λ (hashes : List ℕ). FindsStripe (HasKeysPut c.new-hashes.result.items hashes) c.args.stripe (view c.args.hand.now) (view c.keys_of_stripe_within.new.hand)) (sym c.deref.ensures.value) c.in-Ok.ensures.keys)
    c.in-Ok-keys_under_within.ensures.looks

pub returns-clause-held : goal.returns-clause-held
returns-clause-held c is =
    inr (stops_looking (setup_of c.args.arena.now) c.args.tries c.args.stripe c.deref.result.now c.new-hashes.result.items c.args.hand.now c.keys_of_stripe_within.new.hand c.keys_under_within.new.hand c.new-hashes.ensures.items
    (subst (λ (hashes : List ℕ). FindsStripe (HasKeysPut c.new-hashes.result.items hashes) c.args.stripe (view c.args.hand.now) (view c.keys_of_stripe_within.new.hand)) (sym c.deref.ensures.value) c.in-Ok.ensures.keys)
    (c.in-Err-keys_under_within.ensures.held is))

pub returns-clause-kept : goal.returns-clause-kept
returns-clause-kept c =
    let long : c.len-before.result ≡ length c.args.into.now.items = omega (arith, c.len-before.ensures, c.args.into.now.ok.0) in
    ap bytes_of_keys c.truncate.ensures.items ∙ cut_off c.args.into.now.items c.keys_under_within.new.into.items c.len-before.result long c.in-Err-keys_under_within.ensures.refused
