use Rattle.std.proofs.Common.{ap, ◌∙◌}
use Rattle.mc_words.specs.hand.View.{View}
use Rattle.mc_words.specs.lock.Out.{without_stripe}
use Rattle.mc_items.specs.Calls.{FindsStripe}
use Rattle.mc_items.specs.Listing.{HasKeysPut, IsAny}
use Rattle.mc_items.proofs.Chains.{hand_still, holdings_stay}
use Rattle.mc_items.proofs.Gets.{only_waits}
use Rattle.mc_items.proofs.Left.{Kept, only_keeps}
use Rattle.mc_items.proofs.Listings.{looked_leaves_slabs, on_ok_map}
use Rattle.mc_items.proofs.Locks.{locks_back}
use Rattle.mc_items.proofs.Tells.{told_none}
use Rattle.mc_items.proofs.listing.keys_of_stripe.Goals as goal

pub returns-clause-looks : goal.returns-clause-looks
returns-clause-looks g c =
    let held = c.lock_stripe-held in
    only_waits {Is = IsAny} c.args.stripe held.result.number held.result.stripe c.args.hand.now.seat.me.0 held.new.hand.seat.me.0 c.keys_at.new.hand.seat.me.0 held.ensures.number held.ensures.waits held.ensures.whole tt c.keys_at.ensures.given

pub returns-clause-keys : goal.returns-clause-keys
returns-clause-keys g c =
    let held = c.lock_stripe-held in
    on_ok_map (HasKeysPut c.args.into.now.items c.keys_at.new.into.items held.result.stripe) (FindsStripe (HasKeysPut c.args.into.now.items c.keys_at.new.into.items) c.args.stripe c.args.hand.now.seat.me.0 c.keys_at.new.hand.seat.me.0) c.keys_at.result
    (λ put. only_waits {Is = HasKeysPut c.args.into.now.items c.keys_at.new.into.items} c.args.stripe held.result.number held.result.stripe c.args.hand.now.seat.me.0 held.new.hand.seat.me.0 c.keys_at.new.hand.seat.me.0 held.ensures.number held.ensures.waits held.ensures.whole put c.keys_at.ensures.given) c.keys_at.ensures.keys

pub returns-clause-calls : goal.returns-clause-calls
returns-clause-calls g c = told_none {Is = IsAny} c.args.stripe c.args.hand.now.seat.me.0 c.keys_at.new.hand.seat.me.0 (returns-clause-looks g c)

pub returns-clause-slabs : goal.returns-clause-slabs
returns-clause-slabs g c = looked_leaves_slabs {Is = IsAny} c.args.stripe c.args.hand.now.seat.me.0 c.keys_at.new.hand.seat.me.0 (returns-clause-looks g c)

pub returns-clause-stores_nothing : goal.returns-clause-stores_nothing
returns-clause-stores_nothing g c = ap (λ (k : Kept). k.2) (only_keeps {Is = IsAny} c.args.stripe c.args.hand.now.seat.me.0 c.keys_at.new.hand.seat.me.0 (returns-clause-looks g c))

pub returns-clause-holdings : goal.returns-clause-holdings
returns-clause-holdings g c =
    let before : View = c.args.hand.now.seat.me.0 in
    let now : View = c.keys_at.new.hand.seat.me.0 in
    let kept = only_keeps {Is = IsAny} c.args.stripe before now (returns-clause-looks g c) in
    holdings_stay before now (ap (λ (k : Kept). k.0) kept) (ap (λ (k : Kept). k.1) kept)

pub returns-clause-hand : goal.returns-clause-hand
returns-clause-hand g c =
    let hand = c.args.hand.now in
    let last = c.keys_at.new.hand in
    let kept = only_keeps {Is = IsAny} c.args.stripe hand.seat.me.0 last.seat.me.0 (returns-clause-looks g c) in
    let locks = c.keys_at.ensures.locks ∙ (ap without_stripe c.lock_stripe-held.ensures.locks ∙ locks_back hand c.args.stripe c.requires.ready.unlocked) in
    hand_still c.args.arena.now hand last c.keys_at.ensures.arena locks (ap (λ (k : Kept). k.0) kept) (ap (λ (k : Kept). k.3) kept) c.requires.ready
