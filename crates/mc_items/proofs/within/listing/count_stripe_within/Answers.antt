use Rattle.std.proofs.Common.{ap, ◌∙◌}
use Rattle.mc_words.specs.hand.View.{View}
use Rattle.mc_words.specs.lock.Out.{without_stripe}
use Rattle.mc_items.specs.Listing.{HasKeyCount}
use Rattle.mc_items.proofs.Chains.{hand_still, holdings_stay}
use Rattle.mc_items.proofs.Gets.{only_waits}
use Rattle.mc_items.proofs.Left.{Kept, only_keeps}
use Rattle.mc_items.proofs.Listings.{looked_leaves_slabs, missed_leaves_slabs}
use Rattle.mc_items.proofs.Locks.{locks_back}
use Rattle.mc_items.proofs.Missed.{stripe_missed_keeps, stripe_missed_tells}
use Rattle.mc_items.proofs.Tells.{told_none}
use Rattle.mc_items.proofs.within.listing.count_stripe_within.Goals as goal

pub returns-in-Ok-clause-counts : goal.returns-in-Ok-clause-counts
returns-in-Ok-clause-counts c =
    let held = c.in-Ok.held in
    only_waits {Is = HasKeyCount c.count_at.result} c.args.stripe held.number held.stripe c.args.hand.now.seat.me.0 c.stripe_within.new.hand.seat.me.0 c.count_at.new.hand.seat.me.0 c.in-Ok.ensures.number c.in-Ok.ensures.within.waits c.in-Ok.ensures.whole c.count_at.ensures.count c.count_at.ensures.given

pub returns-in-Ok-clause-calls : goal.returns-in-Ok-clause-calls
returns-in-Ok-clause-calls c = told_none {Is = HasKeyCount c.count_at.result} c.args.stripe c.args.hand.now.seat.me.0 c.count_at.new.hand.seat.me.0 (returns-in-Ok-clause-counts c)

pub returns-in-Ok-clause-slabs : goal.returns-in-Ok-clause-slabs
returns-in-Ok-clause-slabs c = looked_leaves_slabs {Is = HasKeyCount c.count_at.result} c.args.stripe c.args.hand.now.seat.me.0 c.count_at.new.hand.seat.me.0 (returns-in-Ok-clause-counts c)

pub returns-in-Ok-clause-stores_nothing : goal.returns-in-Ok-clause-stores_nothing
returns-in-Ok-clause-stores_nothing c = ap (λ (k : Kept). k.2) (only_keeps {Is = HasKeyCount c.count_at.result} c.args.stripe c.args.hand.now.seat.me.0 c.count_at.new.hand.seat.me.0 (returns-in-Ok-clause-counts c))

pub returns-in-Ok-clause-holdings : goal.returns-in-Ok-clause-holdings
returns-in-Ok-clause-holdings c =
    let before : View = c.args.hand.now.seat.me.0 in
    let now : View = c.count_at.new.hand.seat.me.0 in
    let kept = only_keeps {Is = HasKeyCount c.count_at.result} c.args.stripe c.args.hand.now.seat.me.0 c.count_at.new.hand.seat.me.0 (returns-in-Ok-clause-counts c) in
    holdings_stay before now (ap (λ (k : Kept). k.0) kept) (ap (λ (k : Kept). k.1) kept)

pub returns-in-Ok-clause-hand : goal.returns-in-Ok-clause-hand
returns-in-Ok-clause-hand c =
    let kept = only_keeps {Is = HasKeyCount c.count_at.result} c.args.stripe c.args.hand.now.seat.me.0 c.count_at.new.hand.seat.me.0 (returns-in-Ok-clause-counts c) in
    hand_still c.args.arena.now c.args.hand.now c.count_at.new.hand c.count_at.ensures.arena (c.count_at.ensures.locks ∙ (ap without_stripe c.in-Ok.ensures.locks ∙ locks_back c.args.hand.now c.args.stripe c.requires.ready.unlocked)) (ap (λ (k : Kept). k.0) kept) (ap (λ (k : Kept). k.3) kept) c.requires.ready

pub returns-in-Err-clause-calls : goal.returns-in-Err-clause-calls
returns-in-Err-clause-calls c = stripe_missed_tells c.args.tries c.args.stripe c.args.hand.now.seat.me.0 c.stripe_within.new.hand.seat.me.0 c.in-Err.ensures.missed

pub returns-in-Err-clause-slabs : goal.returns-in-Err-clause-slabs
returns-in-Err-clause-slabs c = missed_leaves_slabs c.args.tries c.args.stripe c.args.hand.now.seat.me.0 c.stripe_within.new.hand.seat.me.0 c.in-Err.ensures.missed

pub returns-in-Err-clause-stores_nothing : goal.returns-in-Err-clause-stores_nothing
returns-in-Err-clause-stores_nothing c = ap (λ (k : Kept). k.2) (stripe_missed_keeps c.args.tries c.args.stripe c.args.hand.now.seat.me.0 c.stripe_within.new.hand.seat.me.0 c.in-Err.ensures.missed)

pub returns-in-Err-clause-holdings : goal.returns-in-Err-clause-holdings
returns-in-Err-clause-holdings c =
    let before : View = c.args.hand.now.seat.me.0 in
    let now : View = c.stripe_within.new.hand.seat.me.0 in
    let kept = stripe_missed_keeps c.args.tries c.args.stripe c.args.hand.now.seat.me.0 c.stripe_within.new.hand.seat.me.0 c.in-Err.ensures.missed in
    holdings_stay before now (ap (λ (k : Kept). k.0) kept) (ap (λ (k : Kept). k.1) kept)

pub returns-in-Err-clause-hand : goal.returns-in-Err-clause-hand
returns-in-Err-clause-hand c =
    let kept = stripe_missed_keeps c.args.tries c.args.stripe c.args.hand.now.seat.me.0 c.stripe_within.new.hand.seat.me.0 c.in-Err.ensures.missed in
    hand_still c.args.arena.now c.args.hand.now c.stripe_within.new.hand c.in-Err.ensures.arena c.in-Err.ensures.same (ap (λ (k : Kept). k.0) kept) (ap (λ (k : Kept). k.3) kept) c.requires.ready
